-- A number as text.
use Rattle.std.specs.Prelude.{◌≡◌, refl, List, [], ◌∷◌, ◌++◌, ℕ, zero, suc, ◌+◌, ◌/◌, ◌%◌, ℤ, pos, negsuc}
use Prim.Native.Char.{code}
use Rattle.base_notation.specs.Text.{utf8}

abbrev pub digit : ℕ → ℕ
digit n = code "0" + n % 10

-- the digits of n, none for 0, at most as many as the first number says
unfoldable pub significant : ℕ → ℕ → List ℕ
significant zero n = []
significant (suc most) zero = []
significant (suc most) (suc n) = significant most (suc n / 10) ++ (digit (suc n) ∷ [])

-- the decimal digits of n: its last one after those of n / 10. No number has more digits than it says.
unfoldable pub digits : ℕ → List ℕ
digits n = significant n (n / 10) ++ (digit n ∷ [])

-- a number in decimal, a minus sign before one below 0
abbrev pub decimal : ℤ → List ℕ
decimal (pos n) = digits n
decimal (negsuc n) = code "-" ∷ digits (suc n)

pub written
    : (decimal (pos 0) ≡ utf8 "0") × (decimal (pos 10) ≡ utf8 "10") × (decimal (negsuc 2439) ≡ utf8 "-2440")
    × (decimal (pos 18446744073709551615) ≡ utf8 "18446744073709551615")
unfolding digits significant
written = (refl, refl, refl, refl)
