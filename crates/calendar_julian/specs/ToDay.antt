-- What date2j computes: the Julian day of a date, in 32-bit arithmetic that wraps.
use Rattle.std.specs.Prelude.{◌≡◌, ℤ, pos, int_lt, refl}
use Rattle.base_notation.specs.Choice.{when◌then◌else◌}
use Rattle.base_wrapping.specs.Wrap.{wrap32, ◌⊕◌, ◌⊖◌, ◌⊗◌, ◌÷◌}

-- the Julian day of a date whose year begins in March and is 4800 years on; March is month 4, February month 15
unfoldable pub from_march : ℤ → ℤ → ℤ → ℤ
from_march y m d =
    y ⊗ pos 365 ⊖ pos 32167 ⊕ y ÷ pos 4 ⊖ y ÷ pos 100 ⊕ y ÷ pos 100 ÷ pos 4 ⊕ pos 7834 ⊗ m ÷ pos 256 ⊕ d

-- the Julian day of a date: January and February belong to the year before
unfoldable pub date2j : ℤ → ℤ → ℤ → ℤ
date2j y m d =
    when int_lt (pos 2) m then from_march (y ⊕ pos 4800) (m ⊕ pos 1) d
    else from_march (y ⊕ pos 4799) (m ⊕ pos 13) d

-- January 1 of 2000
pub y2000 : date2j (pos 2000) (pos 1) (pos 1) ≡ pos 2451545
unfolding date2j from_march wrap32
y2000 = refl

-- December 31 of the largest year
pub largest_year : date2j (pos 2147483647) (pos 12) (pos 31) ≡ pos 1628439923
unfolding date2j from_march wrap32
largest_year = refl
