-- Sums and products that are refused outside 32 bits.
use Rattle.std.specs.Prelude.{◌≡◌, refl, ℕ, ℤ, pos, negsuc, ◌+ℤ◌, ◌*ℤ◌, Err, Ok, Result}
use Rattle.base_notation.specs.Choice.{when◌then◌else◌}
use Rattle.base_refusals.specs.declared.Refusal.TheVariants.{FieldOverflow}
use Rattle.read_integers.specs.Number.{fits32}
use Rattle.base_refusals.specs.declared.Refusal.{Refusal}

-- the number, if it is one of 32 bits
abbrev pub checked : ℤ → Result ℤ Refusal
checked z = when fits32 z then Ok z else Err FieldOverflow

-- the sum and the product with a number that was not refused
infixl 60 ◌plus◌
infixl 60 ◌times◌
abbrev pub ◌plus◌ : Result ℤ Refusal → ℤ → Result ℤ Refusal
Ok a plus b = checked (a +ℤ b)
Err why plus b = Err why

abbrev pub ◌times◌ : Result ℤ Refusal → ℕ → Result ℤ Refusal
Ok a times k = checked (a *ℤ pos k)
Err why times k = Err why

-- the largest number, one more, and what was refused once
pub ends
    : (Ok (pos 2147483646) plus pos 1 ≡ Ok (pos 2147483647)) × (Ok (pos 2147483647) plus pos 1 ≡ Err FieldOverflow)
    × (Ok (pos 2147483647) plus pos 1 plus negsuc 0 ≡ Err FieldOverflow) × (Ok (negsuc 21474835) times 100 ≡ Ok (negsuc 2147483599))
ends = (refl, refl, refl, refl)
