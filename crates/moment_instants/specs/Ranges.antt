-- What every instant and day that is given keeps to, and the numbers of refusals.
use Rattle.std.specs.Prelude.{◌≡◌, refl, Bool, true, ◌⊎◌, ℕ, ℤ, pos, negsuc, Err, Ok, Result}
use Rattle.std.specs.Int.Signed.{lt_z}
use Rattle.moment_parts.specs.Ranges.{ReadNumber}
use Rattle.moment_instants.specs.Report.{undated_report}
use Rattle.moment_instants.specs.declared.epoch.Undated.{Undated}

-- a number above one number and below another
pub record Between (low high z : ℤ) : Type 0 where
  pub above : lt_z low z ≡ true
  pub below : lt_z z high ≡ true

-- neither end of 64 bits, nor of 32 bits: the ends mean the infinities
abbrev pub Finite64 : ℤ → Type 0
Finite64 z = Between (negsuc 9223372036854775807) (pos 9223372036854775807) z

abbrev pub Finite32 : ℤ → Type 0
Finite32 z = Between (negsuc 2147483647) (pos 2147483647) z

-- the number of a refusal is one of reading, or 17 for an instant, 18 for a day
abbrev pub InstantNumber : Bool → ℕ → Type 0
InstantNumber strict n = ReadNumber strict n ⊎ (n ≡ 17)

abbrev pub DayNumber : Bool → ℕ → Type 0
DayNumber strict n = ReadNumber strict n ⊎ (n ≡ 18)

-- an instant is from -9223372036854775807 to 9223372036854775806, or it is refused by its number
abbrev pub InstantAnswered : Bool → Result ℤ Undated → Type 0
InstantAnswered strict (Ok z) = Finite64 z
InstantAnswered strict (Err why) = InstantNumber strict (undated_report why).number

-- a day is from -2147483647 to 2147483646, or it is refused by its number
abbrev pub DayAnswered : Bool → Result ℤ Undated → Type 0
DayAnswered strict (Ok z) = Finite32 z
DayAnswered strict (Err why) = DayNumber strict (undated_report why).number

-- the first and the last instant, and the first and the last day
pub worked
    : (InstantAnswered true (Ok (negsuc 9223372036854775806)) × InstantAnswered true (Ok (pos 9223372036854775806)))
    × (DayAnswered true (Ok (negsuc 2147483646)) × DayAnswered true (Ok (pos 2147483646)))
worked = (
  (record { above = refl; below = refl }, record { above = refl; below = refl }),
  (record { above = refl; below = refl }, record { above = refl; below = refl }),
)
