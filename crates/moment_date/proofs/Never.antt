-- Days that a month never has. Assumes nothing.
-- `longest`: in no year has a month more days than in a leap year.
-- `three_bits`: a mask below 8 is the sum of its three bits.
-- `has_first`: every month has a first day, and January has 31: unless month and day are both marked, the month has the
-- day in every year.
use mathlib.Core.Path.{◌≡◌, refl}
use mathlib.Core.Bool.{Bool, true, false}
use Prim.Native.Nat.{ℕ, zero, suc, ◌+◌, ◌≤◌, ◌<◌, zero-le}
use native.Mathlib.Omega.{arith}
use borrow.Author.Tests.{eqb-true}
use lib.Dec.{eqb}
use lib.IntN.{ℤ, pos, negsuc}
use Rattle.base_notation.specs.Choice.{when◌then◌else◌}
use Rattle.calendar_gregorian.specs.Civil.{length_of}
use Rattle.calendar_gregorian.proofs.Dates.{each}
use Rattle.moment_sums.specs.Within.{Within}
use Rattle.moment_date.specs.Dates.{year_bit, month_bit, day_bit, is_set}
use Rattle.moment_date.specs.declared.Days.{Days}
use Rattle.moment_date.proofs.Marks.{Marked}

-- the lengths differ in February alone
pub longest : (in_leap : Bool) (m : ℤ) → length_of in_leap m ≤ length_of true m
longest true m = omega arith
longest false (pos zero) = omega arith
longest false (pos (suc zero)) = omega arith
longest false (pos (suc (suc zero))) = omega arith
longest false (pos (suc (suc (suc i)))) = omega arith
longest false (negsuc n) = omega arith

-- a bit of a mask, or nothing
abbrev pub value_of : ℕ → ℕ → ℕ
value_of bit set = when is_set bit set then bit else 0

pub three_bits : (set : ℕ) → set < 8 → set ≡ value_of year_bit set + value_of month_bit set + value_of day_bit set
three_bits set h =
    eqb-true set _
    (each (λ n. eqb n (value_of year_bit n + value_of month_bit n + value_of day_bit n) ≡ true) 0 7
    (refl, (refl, (refl, (refl, (refl, (refl, (refl, refl))))))) set zero-le (omega arith))

-- each of the twelve months has a day
some_day : (in_leap : Bool) (m : ℕ) → 1 ≤ m → m ≤ 12 → 1 ≤ length_of in_leap (pos m)
some_day in_leap = each (λ m. 1 ≤ length_of in_leap (pos m)) 1 11 (omega arith)

pub has_first : (in_leap : Bool) (r : Days) → Marked r → Within 1 12 r.month → Within 1 31 r.day
    → (is_set month_bit r.set ≡ true → is_set day_bit r.set ≡ true → Within 1 (length_of in_leap r.month) r.day)
    → Within 1 (length_of in_leap r.month) r.day
has_first in_leap r marks month day marked = split (is_set month_bit r.set) (is_set day_bit r.set) refl refl
  where
    split : (m d : Bool) → is_set month_bit r.set ≡ m → is_set day_bit r.set ≡ d → Within 1 (length_of in_leap r.month) r.day
    split false d p q = rw (marks.month p) day
    split true false p q = record {
      at = 1;
      is = marks.day q;
      from = omega arith;
      to = rw month.is (some_day in_leap month.at month.from month.to);
    }
    split true true p q = marked p q
