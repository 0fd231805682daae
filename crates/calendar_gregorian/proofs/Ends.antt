-- The search for the month of a day of the year. Assumes nothing.
-- `ended`: what the loop keeps, the months passed and those after them that end before the day.
-- `starts`: at first it is the definition's count. `ends`: after twelve months it is 12.
-- `stops`: where the month ends on or after the day, it is the months passed. `goes_on`: else one month more keeps it.
use mathlib.Core.Path.{◌≡◌, refl, ◌∙◌, ap, sym}
use mathlib.Core.Bool.{Bool, true, false}
use Prim.Native.Nat.{ℕ, suc, ◌+◌, ◌<◌}
use native.Mathlib.Nat.{add-zero, zero-add}
use native.Mathlib.Numerals.{add-one}
use native.Mathlib.Omega.{arith}
use lib.IntN.{ℤ, pos}
use lib.ListN.{take, drop}
use lib.Seq.{drop-cons}
use lib.Signed.{le_z}
use Rattle.base_notation.specs.Choice.{when◌then◌else◌}
use Rattle.calendar_gregorian.specs.Gregorian.{sum}
use Rattle.calendar_gregorian.specs.Civil.{lengths_in, ended_before, month_of_day}
use Rattle.calendar_gregorian.proofs.Lengths.{sum-suc}

-- i months passed, and those after them that end before the day n
unfoldable pub ended : Bool → ℕ → ℤ → ℕ
ended in_leap i n = i + ended_before (sum (take i (lengths_in in_leap))) (drop i (lengths_in in_leap)) n

module _ (in_leap : Bool) (n : ℤ) where
  pub starts : suc (ended in_leap 0 n) ≡ month_of_day in_leap n
  unfolding ended month_of_day
  starts = ap suc (zero-add _)

  pub ends : ended in_leap 12 n ≡ 12
  unfolding ended ended_before
  ends = refl

  -- the search at a month that ends after y days
  module _ (i : ℕ) (h : i < 12) {y : ℤ} (p : y ≡ pos (sum (take (i + 1) (lengths_in in_leap)))) where
    at : ended in_leap i n
        ≡ i + (when le_z n y then 0 else suc (ended_before (sum (take (i + 1) (lengths_in in_leap))) (drop (i + 1) (lengths_in in_leap)) n))
    unfolding ended ended_before
    at = rw (p, drop-cons (lengths_in in_leap) i 0 h, ← sum-suc (lengths_in in_leap) i h, add-one)

    pub stops : le_z n y ≡ true → ended in_leap i n ≡ i
    stops e = at ∙ rw (e, add-zero)

    pub goes_on : le_z n y ≡ false → ended in_leap (i + 1) n ≡ ended in_leap i n
    unfolding ended
    goes_on e = sym (at ∙ rw e (omega arith))
