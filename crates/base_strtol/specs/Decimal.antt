-- Numbers written in decimal digits.
use Rattle.std.specs.Prelude.{◌≡◌, refl, List, [], ◌∷◌, ◌++◌, ℕ, zero, suc, ◌+◌, ◌/◌, ◌%◌}
use Prim.Native.Char.{code}
use Rattle.base_notation.specs.Text.{utf8}

-- the last w digits of n, filled with zeros
unfoldable pub decimal : ℕ → ℕ → List ℕ
decimal zero n = []
decimal (suc w) n = decimal w (n / 10) ++ (code "0" + n % 10) ∷ []

-- a year; zeros in front; only the last digits
pub written : (decimal 4 2024 ≡ utf8 "2024") × (decimal 6 70 ≡ utf8 "000070") × (decimal 2 365 ≡ utf8 "65")
unfolding decimal
written = (refl, refl, refl)
