-- A set of numbers below 128, given by the bits of two 64-bit numbers.
use Rattle.std.specs.Prelude.{◌≡◌, refl, Bool, true, false, ℕ, ◌-◌, ◌/◌, ◌%◌, ◌^◌, ltb, eqb}
use Rattle.base_notation.specs.Choice.{when◌then◌else◌}

-- bit k of a number is set
abbrev pub bit_of : ℕ → ℕ → Bool
bit_of n k = eqb (n / 2 ^ k % 2) 1

-- the number k is in the set
unfoldable pub in_set : ℕ → ℕ → ℕ → Bool
in_set low high k =
    when ltb k 64 then bit_of low k
    else when ltb k 128 then bit_of high (k - 64)
    else false

-- a set of 1 and 64
pub worked : (in_set 2 1 1 ≡ true) × (in_set 2 1 2 ≡ false) × (in_set 2 1 64 ≡ true)
unfolding in_set
worked = (refl, refl, refl)
