-- An answer as a record of 64-bit numbers: a report's number, pattern and two figures, then what was read.
use Rattle.std.specs.Prelude.{◌≡◌, refl, List, [], ◌∷◌, ◌++◌, ℕ, ℤ, pos, negsuc, get_or, replicate, Err, None, Ok, Option, Result, Some}
use Rattle.base_refusals.specs.Report.{alone, report_of}
use Rattle.base_refusals.specs.declared.Refusal.TheVariants.{Short, FieldOverflow}
use Rattle.base_refusals.specs.declared.Report.{Report}
use Rattle.moment_parts.specs.Report.{unread_report}
use Rattle.moment_parts.specs.declared.Parts.{Parts}
use Rattle.moment_parts.specs.declared.Unread.{Unread}
use Rattle.moment_parts.specs.declared.Unread.TheVariants.{By, NoSuchDay}
use Rattle.moment_instants.specs.Instant.{parts}
use Rattle.moment_instants.specs.Report.{undated_report}
use Rattle.moment_instants.specs.declared.epoch.Undated.TheVariants.{Unread as NoParts, InstantRange}
use Rattle.moment_instants.specs.declared.epoch.Undated.{Undated}

abbrev pub report_entries : Report → List ℤ
report_entries r = pos r.number ∷ pos r.pattern ∷ r.first ∷ r.second ∷ []

-- what is accepted has the number 0, no pattern and no figures
abbrev pub accepted : Report
accepted = alone 0

-- whether there is an offset, and its seconds east
abbrev pub offset_entries : Option ℤ → List ℤ
offset_entries None = pos 0 ∷ pos 0 ∷ []
offset_entries (Some seconds) = pos 1 ∷ seconds ∷ []

-- the parts before it
abbrev pub date_time_entries : Parts → List ℤ
date_time_entries p = p.year ∷ p.month ∷ p.day ∷ p.hour ∷ p.minute ∷ p.second ∷ p.micros ∷ p.precision ∷ []

-- the parts record, 15 entries: after the offset come the marks, in one number
unfoldable pub parts_record : Result Parts Unread → List ℤ
parts_record (Ok p) = report_entries accepted ++ date_time_entries p ++ offset_entries p.offset ++ pos p.marks ∷ []
parts_record (Err why) = report_entries (unread_report why) ++ replicate 11 (pos 0)

-- the value record, 5 entries
abbrev pub value_record : Report → ℤ → List ℤ
value_record r value = report_entries r ++ value ∷ []

unfoldable pub instant_record : Result ℤ Undated → List ℤ
instant_record (Ok micros) = value_record accepted micros
instant_record (Err why) = value_record (undated_report why) (pos 0)

unfoldable pub day_record : Result ℤ Undated → List ℤ
day_record (Ok days) = value_record accepted days
day_record (Err why) = value_record (undated_report why) (pos 0)

-- `after` is the record, and r, which is returned, its first entry
pub record Recorded (entries after : List ℤ) (r : ℕ) : Type 0 where
  pub is : after ≡ entries
  pub number : pos r ≡ get_or entries 0 (pos 0)

-- February 29 of 2024, seven hours east, with all three marks; DD (number 9 of the table) with 1 byte left of 2; a day
-- that its month never has
pub worked_parts
    : (parts_record (Ok (parts (pos 2024) 2 29 500000 3 (Some (pos 25200))))
    ≡ pos 0 ∷ pos 112 ∷ pos 0 ∷ pos 0 ∷ pos 2024 ∷ pos 2 ∷ pos 29 ∷ pos 0 ∷ pos 0 ∷ pos 0 ∷ pos 500000 ∷ pos 3 ∷ pos 1 ∷ pos 25200 ∷ pos 7 ∷ [])
    × (parts_record (Err (By (Short 9 2 1))) ≡ pos 5 ∷ pos 9 ∷ pos 2 ∷ pos 1 ∷ replicate 11 (pos 0))
    × (parts_record (Err NoSuchDay) ≡ pos 25 ∷ pos 112 ∷ replicate 13 (pos 0))
unfolding parts_record unread_report report_of
worked_parts = (refl, refl, refl)

-- the microsecond before 1970, and January 1 of that year; refused: the value is 0
pub worked_values
    : (instant_record (Ok (negsuc 0)) ≡ pos 0 ∷ pos 112 ∷ pos 0 ∷ pos 0 ∷ negsuc 0 ∷ [])
    × (instant_record (Err InstantRange) ≡ pos 17 ∷ pos 112 ∷ pos 0 ∷ pos 0 ∷ pos 0 ∷ [])
    × (day_record (Ok (pos 0)) ≡ pos 0 ∷ pos 112 ∷ pos 0 ∷ pos 0 ∷ pos 0 ∷ [])
    × (day_record (Err (NoParts (By FieldOverflow))) ≡ pos 15 ∷ pos 112 ∷ pos 0 ∷ pos 0 ∷ pos 0 ∷ [])
unfolding instant_record day_record undated_report unread_report report_of
worked_values = (refl, refl, refl, refl)
