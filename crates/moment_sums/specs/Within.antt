-- Numbers in a range.
use Rattle.std.specs.Prelude.{◌≡◌, refl, Bool, true, false, not, ◌&&◌, ℕ, ◌≤◌, ℤ, pos, negsuc}
use Rattle.std.specs.Int.Signed.{lt_z}

-- a whole number from low to high
pub record Within (low high : ℕ) (z : ℤ) : Type 0 where
  pub at : ℕ
  pub is : z ≡ pos at
  pub from : low ≤ at
  pub to : at ≤ high

-- the number lies from 0 to below n
abbrev pub below : ℤ → ℕ → Bool
below z n = not (lt_z z (pos 0)) && lt_z z (pos n)

-- 59 is below 60; 60 and -1 are not
pub worked : (below (pos 59) 60 ≡ true) × (below (pos 60) 60 ≡ false) × (below (negsuc 0) 60 ≡ false)
worked = (refl, refl, refl)
