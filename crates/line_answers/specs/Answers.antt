-- What an answer says: 0 and what was asked for, or a refusal.
use Rattle.std.specs.Prelude.{◌≡◌, refl, List, [], ◌∷◌, ◌++◌, ℕ, pos, negsuc, Err, None, Ok, Option, Result, Some, ℤ}
use Prim.Native.Char.{code}
use Rattle.base_notation.specs.Text.{utf8}
use Rattle.moment_parts.specs.Report.{unread_report}
use Rattle.moment_parts.specs.declared.Parts.{Parts}
use Rattle.moment_instants.specs.Instant.{parts}
use Rattle.moment_instants.specs.Report.{undated_report}
use Rattle.moment_instants.specs.declared.epoch.Undated.TheVariants.{InstantRange, DateRange}
use Rattle.write_text.specs.Report.{unwritten_report}
use Rattle.write_text.specs.declared.Unwritten.TheVariants.{NoRoom}
use Rattle.line_buffers.specs.Decimal.{decimal, digits, significant}
use Rattle.moment_parts.specs.Patterns.{pattern_name}
use Rattle.line_answers.specs.Items.{item, numbers, report_text}
use Rattle.moment_parts.specs.declared.Unread.{Unread}
use Rattle.moment_instants.specs.declared.epoch.Undated.{Undated}
use Rattle.write_text.specs.declared.Unwritten.{Unwritten}

-- what is accepted begins with 0
abbrev pub accepted : List ℕ → List ℕ
accepted rest = code "0" ∷ rest

-- an offset in seconds east, or `none`
abbrev pub offset_text : Option ℤ → List ℕ
offset_text None = utf8 "none"
offset_text (Some seconds) = decimal seconds

-- year, month, day, hour, minute, second, microseconds, precision, offset; last the marks, as one number from 0 to 7
unfoldable pub moment_text : Parts → List ℕ
moment_text p =
    accepted (
    numbers (p.year ∷ p.month ∷ p.day ∷ p.hour ∷ p.minute ∷ p.second ∷ p.micros ∷ p.precision ∷ [])
    ++ (item (offset_text p.offset) ++ item (decimal (pos p.marks))))

-- the parts of a moment, its instant or its day, or why there is none
unfoldable pub parts_answer : Result Parts Unread → List ℕ
parts_answer (Ok p) = moment_text p
parts_answer (Err why) = report_text (unread_report why)

unfoldable pub instant_answer : Result ℤ Undated → List ℕ
instant_answer (Ok micros) = accepted (item (decimal micros))
instant_answer (Err why) = report_text (undated_report why)

unfoldable pub day_answer : Result ℤ Undated → List ℕ
day_answer (Ok days) = accepted (item (decimal days))
day_answer (Err why) = report_text (undated_report why)

-- a text that is written, or why none is
unfoldable pub text_answer : List ℕ → Result ℕ Unwritten → List ℕ
text_answer text (Ok n) = accepted (item text)
text_answer text (Err why) = report_text (unwritten_report why)

-- half a second past midnight of a day before the year 1, an hour east
pub moments
    : (moment_text (parts (negsuc 43) 3 15 500000 3 (Some (pos 3600))) ≡ utf8 "0 -44 3 15 0 0 0 500000 3 3600 7")
    × (moment_text (parts (pos 2024) 2 29 0 0 None) ≡ utf8 "0 2024 2 29 0 0 0 0 0 none 7")
unfolding moment_text digits significant
moments = (refl, refl)

-- the microsecond before 1970, the day before it, a text of 10 bytes, and no room for it
pub values
    : (instant_answer (Ok (negsuc 0)) ≡ utf8 "0 -1") × (instant_answer (Err InstantRange) ≡ utf8 "17 - 0 0")
    × (day_answer (Ok (negsuc 0)) ≡ utf8 "0 -1") × (day_answer (Err DateRange) ≡ utf8 "18 - 0 0")
    × (text_answer (utf8 "2024-02-29") (Ok 10) ≡ utf8 "0 2024-02-29") × (text_answer [] (Err (NoRoom 10)) ≡ utf8 "21 - 10 0")
unfolding instant_answer day_answer text_answer undated_report unwritten_report report_text pattern_name digits significant
values = (refl, refl, refl, refl, refl, refl)
