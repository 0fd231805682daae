-- What the writer writes for a pattern: a number of fixed width; or a marker of the half of the day or the name of a
-- month, in the pattern's case.
use Rattle.std.specs.Prelude.{◌≡◌, refl, Bool, true, false, List, [], ◌∷◌, map, ℕ, ◌+◌, ◌*◌, ◌%◌, eqb, ltb, nat_abs, get_or, Option, None, Some}
use Prim.Native.String.{String}
use Rattle.calendar_gregorian.specs.IsoWeek.{weeks_compute, iso_week, iso_weekday, iso_year}
use Rattle.base_notation.specs.Choice.{when◌then◌else◌}
use Rattle.base_notation.specs.Text.{utf8}
use Rattle.calendar_gregorian.specs.Gregorian.{day_number, day_of_year}
use Rattle.template_patterns.specs.Affixes.{bit_at}
use Rattle.template_patterns.specs.Patterns.{name_of}
use Rattle.template_patterns.specs.declared.Case.{Case}
use Rattle.template_patterns.specs.declared.Case.TheVariants.{Capitals, Small, Title}
use Rattle.read_fields.specs.Tasks.{among}
use Rattle.base_strtol.specs.Decimal.{decimal}
use Rattle.write_pieces.specs.Moment.{moment}
use Rattle.write_pieces.specs.Words.{marker_text, month_text}
use Rattle.write_pieces.specs.declared.Moment.{Moment}
use Rattle.write_pieces.specs.declared.Piece.{Piece}
use Rattle.write_pieces.specs.declared.Piece.TheVariants.{Year, Month, Day, YearDay, WeekYear, Week, Weekday, Hour24, Hour12, Minute, Second, DaySecond, Micros, Marker, DottedMarker, MonthName, ShortMonth}

-- the pieces: none; year, month and day; day of the year; ISO year, week and weekday; hour of 24 and of 12, minute,
-- second; second of the day; microsecond; markers without and with dots; names of months, full and of three letters
abbrev pub none : ℕ
none = 0

abbrev pub year : ℕ
year = 1

abbrev pub month : ℕ
month = 2

abbrev pub day : ℕ
day = 3

abbrev pub year_day : ℕ
year_day = 4

abbrev pub week_year : ℕ
week_year = 5

abbrev pub week : ℕ
week = 6

abbrev pub weekday : ℕ
weekday = 7

abbrev pub hour24 : ℕ
hour24 = 8

abbrev pub hour12 : ℕ
hour12 = 9

abbrev pub minute : ℕ
minute = 10

abbrev pub second : ℕ
second = 11

abbrev pub day_second : ℕ
day_second = 12

abbrev pub micros : ℕ
micros = 13

abbrev pub marker : ℕ
marker = 14

abbrev pub dotted_marker : ℕ
dotted_marker = 15

abbrev pub month_name : ℕ
month_name = 16

abbrev pub short_month : ℕ
short_month = 17

-- a piece of the code as one of these numbers, and so what the code finds for a pattern
abbrev pub piece_number : Piece → ℕ
piece_number Year = year
piece_number Month = month
piece_number Day = day
piece_number YearDay = year_day
piece_number WeekYear = week_year
piece_number Week = week
piece_number Weekday = weekday
piece_number Hour24 = hour24
piece_number Hour12 = hour12
piece_number Minute = minute
piece_number Second = second
piece_number DaySecond = day_second
piece_number Micros = micros
piece_number Marker = marker
piece_number DottedMarker = dotted_marker
piece_number MonthName = month_name
piece_number ShortMonth = short_month

abbrev pub found_number : Option Piece → ℕ
found_number None = none
found_number (Some piece) = piece_number piece

-- a row of the table below: names of patterns, and their piece
pub record Row : Type 0 where
  pub names : List (List ℕ)
  pub piece : ℕ

infix 5 ◌⇒◌
abbrev ◌⇒◌ : List String → ℕ → Row
ns ⇒ piece = record { names = map utf8 ns; piece = piece }

-- the patterns that the writer knows, in either case
abbrev pub rows : List Row
rows =
    ("YYYY" ∷ [] ⇒ year)
    ∷ ("MM" ∷ [] ⇒ month)
    ∷ ("DD" ∷ [] ⇒ day)
    ∷ ("DDD" ∷ [] ⇒ year_day)
    ∷ ("IYYY" ∷ [] ⇒ week_year)
    ∷ ("IW" ∷ [] ⇒ week)
    ∷ ("ID" ∷ [] ⇒ weekday)
    ∷ ("HH24" ∷ [] ⇒ hour24)
    ∷ ("HH" ∷ "HH12" ∷ [] ⇒ hour12)
    ∷ ("MI" ∷ [] ⇒ minute)
    ∷ ("SS" ∷ [] ⇒ second)
    ∷ ("SSSSS" ∷ [] ⇒ day_second)
    ∷ ("US" ∷ [] ⇒ micros)
    ∷ ("AM" ∷ "PM" ∷ [] ⇒ marker)
    ∷ ("A.M." ∷ "P.M." ∷ [] ⇒ dotted_marker)
    ∷ ("MONTH" ∷ [] ⇒ month_name)
    ∷ ("MON" ∷ [] ⇒ short_month)
    ∷ []

-- the piece of the first row that has the name
abbrev pub piece_named : List ℕ → List Row → ℕ
piece_named name [] = none
piece_named name (r ∷ rs) = when among name r.names then r.piece else piece_named name rs

-- the piece of a pattern, by its number
unfoldable pub piece_of : ℕ → ℕ
piece_of k = piece_named (name_of k) rows

-- how many bytes each piece has at every moment; 0 for the full name of a month, whose length depends on the moment
abbrev pub widths : List ℕ
widths = 0 ∷ 4 ∷ 2 ∷ 2 ∷ 3 ∷ 4 ∷ 2 ∷ 1 ∷ 2 ∷ 2 ∷ 2 ∷ 2 ∷ 5 ∷ 6 ∷ 2 ∷ 4 ∷ 0 ∷ 3 ∷ []

abbrev pub width_of : ℕ → ℕ
width_of p = get_or widths p 0

-- the prefix that a piece's pattern needs, by its bit: FM on the full name of a month, none on any other
abbrev pub prefix_of : ℕ → ℕ
prefix_of p = when eqb p month_name then 1 else 0

-- the hour of the 12-hour clock: 12 for 0 and 12
abbrev pub of12 : ℕ → ℕ
of12 h = (h + 11) % 12 + 1

-- the number of a number piece at a moment
unfoldable pub number_of : ℕ → Moment → ℕ
number_of p m =
    let y = nat_abs m.year in
    let mo = nat_abs m.month in
    let d = nat_abs m.day in
    let h = nat_abs m.hour in
    let mi = nat_abs m.minute in
    let s = nat_abs m.second in
    when eqb p year then y
    else when eqb p month then mo
    else when eqb p day then d
    else when eqb p year_day then day_of_year y mo d
    else when eqb p week_year then iso_year y mo d
    else when eqb p week then iso_week y mo d
    else when eqb p weekday then iso_weekday (day_number y mo d)
    else when eqb p hour24 then h
    else when eqb p hour12 then of12 h
    else when eqb p minute then mi
    else when eqb p second then s
    else when eqb p day_second then h * 3600 + mi * 60 + s
    else nat_abs m.micros

-- the moment is before noon
abbrev pub is_morning : Moment → Bool
is_morning m = ltb (nat_abs m.hour) 12

-- the text of a piece in a case at a moment, a number filled with zeros
unfoldable pub piece_text : ℕ → Case → Moment → List ℕ
piece_text p case m =
    when eqb p marker then marker_text case false (is_morning m)
    else when eqb p dotted_marker then marker_text case true (is_morning m)
    else when eqb p month_name then month_text case true (nat_abs m.month)
    else when eqb p short_month then month_text case false (nat_abs m.month)
    else decimal (width_of p) (number_of p m)

-- yyyy is the year, and Month and mon are names of months; FF1 is not written
pub known : (piece_of 108 ≡ year) × (piece_of 37 ≡ month_name) × (piece_of 91 ≡ short_month) × (piece_of 14 ≡ none)
unfolding piece_of
known = (refl, refl, refl, refl)

-- FM is the prefix of the full name, and the short one has none
pub prefixes : (prefix_of month_name ≡ bit_at true (utf8 "FMMonth") 0) × (prefix_of short_month ≡ 0)
unfolding bit_at
prefixes = (refl, refl)

-- January 1 of 2021 is day 5 of week 53 of 2020; midnight is 12 AM
pub worked
    : (piece_text week_year Capitals (moment 2021 1 1 0 0 0 7) ≡ utf8 "2020") × (piece_text hour12 Capitals (moment 2021 1 1 0 0 0 7) ≡ utf8 "12")
    × (piece_text marker Capitals (moment 2021 1 1 0 0 0 7) ≡ utf8 "AM") × (piece_text micros Small (moment 2021 1 1 0 0 0 7) ≡ utf8 "000007")
unfolding piece_text number_of decimal weeks_compute
worked = (refl, refl, refl, refl)

-- noon is pm, the hour before it a.m.; the month is named in the pattern's case
pub cased
    : (piece_text marker Small (moment 2021 1 1 12 0 0 0) ≡ utf8 "pm") × (piece_text dotted_marker Small (moment 2021 1 1 11 0 0 0) ≡ utf8 "a.m.")
    × (piece_text month_name Title (moment 2024 9 5 0 0 0 0) ≡ utf8 "September") × (piece_text short_month Capitals (moment 2024 9 5 0 0 0 0) ≡ utf8 "SEP")
unfolding piece_text
cased = (refl, refl, refl, refl)
