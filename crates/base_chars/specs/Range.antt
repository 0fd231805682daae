-- Ranges of bytes.
use Rattle.std.specs.Prelude.{◌≡◌, refl, Bool, true, false, ◌&&◌, ℕ, leb}

pub record Range : Type 0 where
  pub low : ℕ
  pub high : ℕ

-- from a first byte to a last
infix 80 ◌‥◌
abbrev pub ◌‥◌ : ℕ → ℕ → Range
lo ‥ hi = record { low = lo; high = hi }

-- whether a byte lies in a range, both ends included
infix 45 ◌∈◌
abbrev pub ◌∈◌ : ℕ → Range → Bool
b ∈ r = leb r.low b && leb b r.high

pub ends : (7 ∈ 8 ‥ 9 ≡ false) × (8 ∈ 8 ‥ 9 ≡ true) × (9 ∈ 8 ‥ 9 ≡ true) × (10 ∈ 8 ‥ 9 ≡ false)
ends = (refl, refl, refl, refl)
