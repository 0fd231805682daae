-- Worked examples: the table P1 to P15, proved in one statement, the limits, and days without a year. Each answer is as
-- users see it: the numbers of a moment, or a refusal's number, the name of its pattern and its two figures.
use Rattle.std.specs.Prelude.{◌≡◌, refl, true, List, [], ℕ, ℤ, pos, replicate, Err, None, Ok, Option, Result, Some}
use Prim.Native.String.{String}
use Rattle.moment_date.specs.Dates.{date_computes}
use Rattle.moment_time.specs.Time.{time_computes}
use Rattle.read_input.specs.Examples.{reading_computes}
use Rattle.base_notation.specs.Text.{utf8}
use Rattle.base_settings.specs.Limits.{cards, limits_compute, pages}
use Rattle.base_settings.specs.Strict.{with_strict}
use Rattle.base_refusals.specs.Report.{report_of}
use Rattle.base_refusals.specs.declared.Refusal.TheVariants.{NotUtf8, TooLong}
use Rattle.base_refusals.specs.declared.Report.{Report}
use Rattle.base_chars.specs.Utf8.{sequence, well_formed_after}
use Rattle.moment_parts.specs.Parts.{checked_moment, moment_of, parts_of, parts_read, refused_by}
use Rattle.moment_parts.specs.Patterns.{pattern_name}
use Rattle.moment_parts.specs.Report.{unread_report}
use Rattle.moment_parts.specs.declared.Parts.{Parts}
use Rattle.moment_parts.specs.declared.Unread.{Unread}

-- what users see: the parts of a moment, or a refusal by its number, its pattern's name and two figures
pub data Shown : Type 0 where
  accepted : Parts → Shown
  refused : (number : ℕ) (name : List ℕ) (first second : ℤ) → Shown

-- a report and an answer, as they are shown
abbrev pub reported : Report → Shown
reported r = refused r.number (pattern_name r.pattern) r.first r.second

abbrev pub shown : Result Parts Unread → Shown
shown (Ok p) = accepted p
shown (Err why) = reported (unread_report why)

-- what users of the exercise pages see for a template and an input
abbrev pub reads : String → String → Shown
reads t s = shown (parts_of pages (utf8 t) (utf8 s))

-- a moment by its year, month, day, hour, microseconds, offset and marks; minute, second and precision are 0
abbrev pub moment : ℕ → ℕ → ℕ → ℕ → ℕ → Option ℤ → ℕ → Shown
moment y m d h us offset marks =
    accepted (record { year = pos y; month = pos m; day = pos d; hour = pos h; minute = pos 0; second = pos 0; micros = pos us; precision = pos 0; offset = offset; marks = marks })

-- a moment at midnight, without an offset; the marks are 1 for the year, 2 for the month and 4 for the day
abbrev pub date : ℕ → ℕ → ℕ → ℕ → Shown
date y m d marks = moment y m d 0 0 None marks

-- a refusal by its number, its pattern's name and two figures that are not negative
abbrev pub refusal : ℕ → String → ℕ → ℕ → Shown
refusal number name first second = refused number (utf8 name) (pos first) (pos second)

-- the table, one statement
abbrev pub Table : Type 0
Table =
    (reads "" "abc" ≡ date 0 1 1 0)  -- P1
    × (reads "YYYY" "" ≡ date 0 1 1 0)  -- P2
    × (reads "MM-DD" "02-30" ≡ date 0 2 30 6)  -- P3
    × (reads "YYYY-MM-DD" "2023-02-29" ≡ refusal 15 "-" 0 0)  -- P4
    × (reads "Day Dy" "Monday Mon" ≡ refusal 4 "Dy" 0 0)  -- P5
    × (reads "Day Dy" "Monday Tue" ≡ date 0 1 1 0)  -- P6
    × (reads "HH12" "0" ≡ refusal 13 "-" 0 0)  -- P7: the first figure is the hour
    × (reads "HH12 PM" "12 AM" ≡ date 0 1 1 0)  -- P8
    × (reads "YY" "69" ≡ date 2069 1 1 1)  -- P9
    × (reads "YY" "70" ≡ date 1970 1 1 1)  -- P9
    × (reads "MS" "5" ≡ moment 0 1 1 0 500000 None 0)  -- P10
    × (reads "IYYY-IW-ID" "2020-53-5" ≡ date 2021 1 1 7)  -- P11
    × (reads "OF" "+15:59" ≡ moment 0 1 1 0 0 (Some (pos 57540)) 0)  -- P12
    × (reads "OF" "+16" ≡ refusal 16 "-" 0 0)  -- P12
    × (reads "CC YY" "21 00" ≡ date 2100 1 1 1)  -- P13
    × (reads "YYYY DDD" "-1 5" ≡ refusal 14 "-" 0 0)  -- P14
    × (reads "\"ngày\"DD" "ngày05" ≡ date 0 1 5 4)  -- P15
    -- P15 again: the input alone has a and U+0300 apart, two characters that look like the à of the template
    × (reads "\"ngày\"DD" "ngày05" ≡ refusal 7 "DD" 0 0)

-- unfolds all that the answer to a pair is computed by
unfoldable pub parts_compute : ℕ
unfolding parts_of parts_read limits_compute moment_of checked_moment unread_report report_of pattern_name well_formed_after sequence reading_computes time_computes date_computes
parts_compute = 0

pub table : Table
unfolding parts_compute
table = (refl, refl, refl, refl, refl, refl, refl, refl, refl, refl, refl, refl, refl, refl, refl, refl, refl, refl)

-- each caller has its own limits, which are tested before UTF-8: 64 and 96 bytes for the flash cards, 256 and 512 for
-- the exercise pages; 0xff is no UTF-8
pub limited
    : (parts_of cards (replicate 64 0xff) [] ≡ refused_by NotUtf8) × (parts_of cards (replicate 65 0xff) [] ≡ refused_by TooLong)
    × (parts_of cards [] (replicate 96 0xff) ≡ refused_by NotUtf8) × (parts_of cards [] (replicate 97 0xff) ≡ refused_by TooLong)
    × (parts_of pages (replicate 256 0xff) [] ≡ refused_by NotUtf8) × (parts_of pages (replicate 257 0xff) [] ≡ refused_by TooLong)
    × (parts_of pages [] (replicate 512 0xff) ≡ refused_by NotUtf8) × (parts_of pages [] (replicate 513 0xff) ≡ refused_by TooLong)
unfolding parts_of parts_read limits_compute well_formed_after sequence
limited = (refl, refl, refl, refl, refl, refl, refl, refl)

-- what they see under the strict switch
abbrev pub strictly : String → String → Shown
strictly t s = shown (parts_of (with_strict true pages) (utf8 t) (utf8 s))

-- a day that its month never has is refused by 25, February 29 is not; a year that is read as 0 is not set, and with
-- any other year it is 15. Before 25 come the ranges of month and day, after it those of the time and of the offset
pub without_year
    : (strictly "MM-DD" "02-30" ≡ refusal 25 "-" 0 0) × (strictly "MM-DD" "04-31" ≡ refusal 25 "-" 0 0)
    × (strictly "MM-DD" "02-29" ≡ date 0 2 29 6) × (strictly "DD" "31" ≡ date 0 1 31 4)
    × (strictly "YYYY-MM-DD" "0000-02-30" ≡ refusal 25 "-" 0 0) × (strictly "YYYY-MM-DD" "2023-02-30" ≡ refusal 15 "-" 0 0)
    × (strictly "MM-DD" "13-30" ≡ refusal 15 "-" 0 0) × (strictly "MM-DD" "02-32" ≡ refusal 15 "-" 0 0)
    × (strictly "MM-DD HH24" "02-30 24" ≡ refusal 25 "-" 0 0) × (reads "MM-DD HH24" "02-30 24" ≡ refusal 15 "-" 0 0)
    × (strictly "MM-DD OF" "02-30 +16" ≡ refusal 25 "-" 0 0) × (reads "MM-DD OF" "02-30 +16" ≡ refusal 16 "-" 0 0)
unfolding parts_compute
without_year = (refl, refl, refl, refl, refl, refl, refl, refl, refl, refl, refl, refl)

-- other patterns set marks too: a Julian day all three, the day of the year month and day (here in the year 0, with
-- BC), a century the year. Without a year, day 30 of the year in February is day 30 of February
pub marked
    : (reads "J" "2460370" ≡ date 2024 2 29 7) × (reads "DDD BC" "366 BC" ≡ date 0 12 31 6) × (reads "CC" "21" ≡ date 2001 1 1 1)
    × (reads "MM DDD BC" "02 030 BC" ≡ date 0 2 30 6) × (strictly "MM DDD BC" "02 030 BC" ≡ refusal 25 "-" 0 0)
unfolding parts_compute
marked = (refl, refl, refl, refl, refl)
