-- Rounding half away from 2000: where the count with its half fits 64 bits. Assumes nothing.
-- `limit_fits`: the limit that the code compares an instant with fits 64 bits.
-- `early`, `counted`: an instant below the limit has no count from 2000 that fits with its half; any other has.
-- `digits`: what passes the tests of the precision is one to five digits.
-- `half_le`: for one to five digits the half that rounds is at most 50000.
use mathlib.Core.Path.{◌≡◌, refl, ◌∙◌, ap, sym}
use mathlib.Core.Bool.{true, false, ◌&&◌, ◌||◌, and-false, false≢true}
use Prim.Native.Nat.{ℕ, suc, ◌+◌, ◌-◌, ◌/◌, ◌≤◌, ◌<◌, ◌^◌}
use native.Mathlib.Nat.{div-mul-le_self}
use native.Mathlib.Omega.{arith}
use borrow.Author.Tests.{lt-ltb, le-ltb, ltb-true, ltb-false}
use lib.Dec.{T, ltb}
use lib.IntN.{ℤ, pos, negsuc, neg_ℤ, nat_abs, ◌+ℤ◌, ◌-ℤ◌, +ℤ_assoc, +ℤ_comm}
use lib.Signed.{lt_z, mag, non_neg}
use mir.Syntax.{w64}
use mir.Val.{SFits}
use Rattle.moment_instants.specs.Instant.{fits64, epoch2000, rounded, away}
use Rattle.calendar_gregorian.proofs.Dates.{each}
use Rattle.moment_instants.proofs.Order.{below_sum, sum_below}
use Rattle.moment_instants.proofs.Range.{first, sub_small}
use Rattle.base_notation.proofs.Magnitudes.{neg_mag}

-- the first count that fits with its half, of one to five digits
lowest : (half : ℕ) → half ≤ 50000 → first +ℤ pos half ≡ negsuc (9223372036854775807 - suc half)
lowest half h = rw (lt-ltb half 9223372036854775807 (omega arith))

module _ (half : ℕ) (h : half ≤ 50000) where
  too_low : (z : ℤ) → lt_z z (first +ℤ pos half) ≡ true → (fits64 z && ltb (nat_abs z + half) (2 ^ 63)) ≡ false
  too_low z = rw (lowest half h) (by z)
    where
      by : (z : ℤ) → lt_z z (negsuc (9223372036854775807 - suc half)) ≡ true → (fits64 z && ltb (nat_abs z + half) (2 ^ 63)) ≡ false
      by (pos n) l = absurd (false≢true l)
      by (negsuc n) l =
          rw (le-ltb (suc n + half) (2 ^ 63) (omega (arith, ltb-true (9223372036854775807 - suc half) n l))) (and-false (fits64 (negsuc n)))

  fitting : (z : ℤ) → lt_z (pos 9222425352054775807) z ≡ false → lt_z z (first +ℤ pos half) ≡ false → (mag z < 2 ^ 63) × (nat_abs z + half < 2 ^ 63)
  fitting z k = rw (lowest half h) (by z k)
    where
      by : (z : ℤ) → lt_z (pos 9222425352054775807) z ≡ false → lt_z z (negsuc (9223372036854775807 - suc half)) ≡ false
          → (mag z < 2 ^ 63) × (nat_abs z + half < 2 ^ 63)
      by (pos n) k l = let bound = ltb-false 9222425352054775807 n k in (omega arith, omega arith)
      by (negsuc n) k l = let bound = ltb-false (9223372036854775807 - suc half) n l in (omega arith, omega arith)

  pub limit_fits : SFits w64 (negsuc 9222425352054775806 +ℤ pos half)
  limit_fits = record { sfits = sub_small half 9222425352054775807 (2 ^ 63) (omega arith) (omega arith) }

  -- the same of an instant
  from_2000 : (t : ℤ) → lt_z t (negsuc 9222425352054775806 +ℤ pos half) ≡ lt_z (t -ℤ epoch2000) (first +ℤ pos half)
  from_2000 t =
      ap (lt_z t) (+ℤ_assoc first epoch2000 (pos half) ∙ ap (λ (z : ℤ). first +ℤ z) (+ℤ_comm epoch2000 (pos half)) ∙ sym (+ℤ_assoc first (pos half) epoch2000))
      ∙ sum_below t (neg_ℤ epoch2000) (first +ℤ pos half)

  not_past : (t : ℤ) → SFits w64 t → lt_z (pos 9223372036854775807) t ≡ false
  not_past (pos n) f = le-ltb 9223372036854775807 n (omega arith)
  not_past (negsuc n) f = refl

  pub early : (t : ℤ) → lt_z t (negsuc 9222425352054775806 +ℤ pos half) ≡ true
      → (fits64 (t -ℤ epoch2000) && ltb (nat_abs (t -ℤ epoch2000) + half) (2 ^ 63)) ≡ false
  early t l = too_low (t -ℤ epoch2000) (sym (from_2000 t) ∙ l)

  -- the count of an instant from 2000, and what is asked of it
  pub counted : (t : ℤ) → SFits w64 t → lt_z t (negsuc 9222425352054775806 +ℤ pos half) ≡ false
      → (mag (t -ℤ epoch2000) < 2 ^ 63) × (nat_abs (t -ℤ epoch2000) + half < 2 ^ 63)
  counted t f l =
      fitting (t -ℤ epoch2000) (sym (below_sum t (neg_ℤ epoch2000) (pos 9222425352054775807)) ∙ not_past t f) (sym (from_2000 t) ∙ l)

-- one to five digits
pub record Digits (p : ℤ) : Type 0 where
  pub sign : T (non_neg p)
  pub from : 1 ≤ nat_abs p
  pub to : nat_abs p ≤ 5
  pub is : (lt_z p (pos 1) || lt_z (pos 5) p) ≡ false

pub digits : (p : ℤ) → lt_z p (pos 1) ≡ false → lt_z (pos 5) p ≡ false → Digits p
digits (pos n) h k = record { sign = tt; from = ltb-false n 1 h; to = ltb-false 5 n k; is = rw (h, k) }
digits (negsuc n) h k = absurd (false≢true (sym h))

-- the half that rounds
pub half_le : (p : ℕ) → 1 ≤ p → p ≤ 5 → (0 < 10 ^ (6 - p)) × (10 ^ (6 - p) / 2 ≤ 50000)
half_le = each (λ p. (0 < 10 ^ (6 - p)) × (10 ^ (6 - p) / 2 ≤ 50000)) 1 4 (omega arith)
