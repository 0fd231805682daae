-- Patterns that read a number, and a year with a comma.
use Rattle.std.specs.Prelude.{◌≡◌, refl, Bool, List, ℕ, ◌-◌, ◌^◌, eqb, ltb, ℤ, pos, Err, Ok, Result}
use Rattle.std.specs.Int.Signed.{lt_z}
use Rattle.read_numbers.specs.Year.{years_compute, comma_year_at, near2020}
use Rattle.read_integers.specs.Number.{integer_computes, number_at}
use Rattle.base_notation.specs.Choice.{when◌then◌else◌}
use Rattle.base_refusals.specs.declared.Refusal.TheVariants.{Conflict}
use Rattle.read_integers.specs.Suffix.{past_ordinal}
use Rattle.read_integers.specs.declared.Number.{Number}
use Rattle.template_nodes.specs.declared.Node.{Node}
use Rattle.base_wrapping.specs.Wrap.{◌⊕◌, ◌⊗◌}
use Rattle.read_fields.specs.Fields.{conflicts, get, put, read, refuse, at_place, clock, yysz, ff}
use Rattle.read_fields.specs.Tasks.{comma_year, kind_of, same_kind, hour12, millis, micros, fraction, iso_day, whole_year, part_year}
use Rattle.read_fields.specs.declared.Fields.{Fields}
use Rattle.read_fields.specs.declared.Place.{Place}
use Rattle.read_fields.specs.declared.Reading.{Reading}
use Rattle.read_fields.specs.declared.Task.{Task}
use Rattle.base_refusals.specs.declared.Refusal.{Refusal}

-- a number read from n bytes is the first digits of a width: ten to the number of digits that are missing
abbrev pub missing : ℕ → ℕ → ℤ
missing width n = when eqb n 0 then pos 1 else pos (10 ^ (width - n))

-- Sunday, 7 in ISO weeks, is 1, Monday 2
abbrev pub sunday_first : ℤ → ℤ
sunday_first z = when lt_z (pos 7) (z ⊕ pos 1) then pos 1 else z ⊕ pos 1

-- a year of fewer than four digits is put near 2020
abbrev pub near_if_short : ℤ → ℕ → ℤ
near_if_short z n = when ltb n 4 then near2020 z else z

-- what a field keeps of a number that was read from n bytes
unfoldable pub kept : ℕ → ℤ → ℕ → ℤ
kept rule z n =
    when eqb rule millis then z ⊗ missing 3 n
    else when eqb rule micros then z ⊗ missing 6 n
    else when eqb rule fraction then z ⊗ missing 6 n
    else when eqb rule iso_day then sunday_first z
    else when eqb rule part_year then near_if_short z n
    else z

-- what else is set: the clock of 12 hours, the digits of the year or of the fraction
unfoldable pub noted : ℕ → ℕ → Fields → Fields
noted rule width f =
    when eqb rule hour12 then put f clock (pos 12)
    else when eqb rule whole_year then put f yysz (pos 4)
    else when eqb rule part_year then put f yysz (pos width)
    else when eqb rule fraction then put f ff (pos width)
    else f

-- a number that was read from n bytes goes into its field
abbrev pub with_number : Task → ℤ → ℕ → Fields → Fields
with_number task z n f = noted task.rule task.operand (put f task.field (kept task.rule z n))

-- a number goes into its field, unless that was set to another value; an ordinal suffix is skipped
unfoldable pub stored_number : List ℕ → Node → Task → Result Number Refusal → Fields → Place → Reading
stored_number s n task (Err why) f p = refuse why f p
stored_number s n task (Ok r) f p =
    when conflicts (get f task.field) r.value then refuse (Conflict n.pattern) f p
    else read (with_number task r.value (r.next - p.at) f) (at_place p (past_ordinal s r.next n.accents n.suffix))

-- the number at a place: with a comma, or of a width
abbrev pub number_of : List ℕ → Node → Bool → Task → ℕ → Result Number Refusal
number_of s n free task at =
    when same_kind (kind_of task.kind) comma_year then comma_year_at s at n.pattern else number_at s at task.operand n.pattern free

abbrev pub read_number : List ℕ → Node → Bool → Task → Fields → Place → Reading
read_number s n free task f p = stored_number s n task (number_of s n free task p.at) f p

-- a number that is read and dropped
unfoldable pub dropped_number : List ℕ → Node → Result Number Refusal → Fields → Place → Reading
dropped_number s n (Err why) f p = refuse why f p
dropped_number s n (Ok r) f p = read f (at_place p (past_ordinal s r.next n.accents n.suffix))

abbrev pub read_dropped : List ℕ → Node → Bool → Task → Fields → Place → Reading
read_dropped s n free task f p = dropped_number s n (number_at s p.at task.operand n.pattern free) f p

-- unfolds all that a pattern that reads a number is computed by, for worked examples
unfoldable pub number_computes : ℕ
unfolding kept noted stored_number dropped_number past_ordinal integer_computes years_compute
number_computes = 0

-- 5 milliseconds of one digit are 500, and 25 microseconds of two digits 250000; Sunday is 1; 69 of two digits is 2069
pub worked
    : (kept millis (pos 5) 1 ≡ pos 500) × (kept micros (pos 25) 2 ≡ pos 250000) × (kept iso_day (pos 7) 1 ≡ pos 1) × (kept part_year (pos 69) 2 ≡ pos 2069)
unfolding number_computes
worked = (refl, refl, refl, refl)
