-- When a field may be set: 0 is absent, and a second value must be the first (from_char_set_int of formatting.c).
use Rattle.std.specs.Prelude.{◌≡◌, refl, Bool, true, false, not, ◌&&◌, eqb, ℤ, pos, negsuc}

-- two whole numbers are the same
abbrev pub eq_ℤ : ℤ → ℤ → Bool
eq_ℤ (pos a) (pos b) = eqb a b
eq_ℤ (pos a) (negsuc b) = false
eq_ℤ (negsuc a) (pos b) = false
eq_ℤ (negsuc a) (negsuc b) = eqb a b

abbrev pub is_zero : ℤ → Bool
is_zero z = eq_ℤ z (pos 0)

-- a field that was set before to another value
abbrev pub conflicts : ℤ → ℤ → Bool
conflicts old new = not (is_zero old) && not (eq_ℤ old new)

-- an absent field takes any value, and 5 only 5
pub worked : (conflicts (pos 0) (pos 7) ≡ false) × (conflicts (pos 5) (pos 5) ≡ false) × (conflicts (pos 5) (negsuc 4) ≡ true)
worked = (refl, refl, refl)
