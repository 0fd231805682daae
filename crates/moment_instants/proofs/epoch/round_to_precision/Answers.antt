-- `moment_instants::epoch::round_to_precision` meets its contract: the one test before rounding decides whether the
-- count from 2000 fits 64 bits with the half that rounds it. Assumes nothing.
use Rattle.std.proofs.Common.{◌≡◌}
use mathlib.Core.Bool.{false, or-true}
use Prim.Native.Nat.{ℕ, ◌+◌, ◌-◌, ◌/◌, ◌≤◌, ◌<◌, ◌^◌}
use native.Mathlib.Omega.{arith}
use borrow.Author.Rules.{sfits_of}
use borrow.Author.Tests.{lt-ltb}
use lib.IntN.{ℤ, pos, negsuc, nat_abs, ◌+ℤ◌, ◌-ℤ◌}
use lib.Signed.{lt_z, mag}
use mir.Facts.{to_z-of_z, to_z_pos}
use mir.Syntax.{w32, w64}
use mir.Val.{SFits, to_z, of_z}
use Rattle.moment_instants.specs.Instant.{epoch2000, away, rounded_to}
use Rattle.moment_instants.proofs.Rounding.{Digits, digits, half_le, limit_fits, early, counted}
use Rattle.moment_instants.proofs.Seconds.{returned}
use Rattle.moment_instants.proofs.epoch.round_to_precision.Goals.{then-precision-lt1-via-then-precision-lt1, then-precision-lt1-via-else-precision-lt1+then-precision-gt5}
use Rattle.moment_instants.proofs.epoch.round_to_precision.Goals as goal

-- no digits are asked for, or more than five: as it is
pub returns-then-precision-lt1 : goal.returns-then-precision-lt1
unfolding rounded_to
returns-then-precision-lt1 c =
    let precision_back = to_z-of_z c.ranges.precision in
    elim c.then-precision-lt1.branch [
      | then-precision-lt1-via-then-precision-lt1 w ↦ rw (to_z-of_z c.ranges.t, rw precision_back at w.if-precision-lt1.true)
      | then-precision-lt1-via-else-precision-lt1+then-precision-gt5 w ↦
          rw (to_z-of_z c.ranges.t, rw precision_back at w.if-precision-gt5.true, or-true (lt_z c.args.precision (pos 1)))
    ]

-- one to five digits
few : {p : ℤ} → SFits w32 p → lt_z (to_z w32 (of_z w32 p)) (pos 1) ≡ false → lt_z (pos 5) (to_z w32 (of_z w32 p)) ≡ false → Digits p
few {p} f h k = digits p (rw (to_z-of_z f) at h) (rw (to_z-of_z f) at k)

-- their scale
abbrev scale : ℤ → ℕ
scale p = 10 ^ (6 - nat_abs p)

small : {p : ℤ} → Digits p → (0 < scale p) × (scale p / 2 ≤ 50000)
small {p} d = half_le (nat_abs p) d.from d.to

-- the limit that the code compares with, as the definition has it
abbrev limit : ℤ → ℤ
limit p = negsuc 9222425352054775806 +ℤ pos (scale p / 2)

module _ {p : ℤ} (d : Digits p) {r : ℕ} (scale_is : r ≡ scale p) where
  limit_is : to_z w64 (of_z w64 (negsuc 9222425352054775806 +ℤ to_z w64 (r / 2))) ≡ limit p
  limit_is =
      rw (scale_is, to_z_pos w64 {n = scale p / 2} (omega (arith, small d)))
      (to_z-of_z (limit_fits (scale p / 2) (small d).1))

-- the count from 2000 with its half does not fit
pub returns-then-t-scale : goal.returns-then-t-scale
unfolding rounded_to
returns-then-t-scale c =
    let d = few c.ranges.precision c.if-precision-lt1.false c.if-precision-gt5.false in
    let scale_is = rw (to_z-of_z c.ranges.precision) at c.scale_of-scale.ensures in
    rw (d.is, early (scale c.args.precision / 2) (small d).1 c.args.t (rw (to_z-of_z c.ranges.t, limit_is d scale_is) at c.if-t-scale.true))

-- the count from 2000 fits, also with the half
module _ {p t : ℤ} (d : Digits p) (f : SFits w64 t) {r : ℕ} (scale_is : r ≡ scale p)
    (h : lt_z (to_z w64 (of_z w64 t)) (to_z w64 (of_z w64 (negsuc 9222425352054775806 +ℤ to_z w64 (r / 2)))) ≡ false) where
  room : (mag (t -ℤ epoch2000) < 2 ^ 63) × (nat_abs (t -ℤ epoch2000) + scale p / 2 < 2 ^ 63)
  room = counted (scale p / 2) (small d).1 t f (rw (to_z-of_z f, limit_is d scale_is) at h)

  count_is : to_z w64 (of_z w64 (to_z w64 (of_z w64 t) -ℤ epoch2000)) ≡ t -ℤ epoch2000
  count_is = rw (to_z-of_z f) (to_z-of_z {w = w64} (sfits_of room.0))

pub rounded_count-requires : goal.rounded_count-requires
rounded_count-requires c =
    let d = few c.ranges.precision c.if-precision-lt1.false c.if-precision-gt5.false in
    let scale_is = rw (to_z-of_z c.ranges.precision) at c.scale_of-scale.ensures in
    rw (count_is d c.ranges.t scale_is c.if-t-scale.false, scale_is)
    ((small d).0, (room d c.ranges.t scale_is c.if-t-scale.false).1)

-- rounded, and counted from 1970 again
pub returns : goal.returns
unfolding rounded_to
returns c =
    let p = c.args.precision in
    let count = c.args.t -ℤ epoch2000 in
    let d = few c.ranges.precision c.if-precision-lt1.false c.if-precision-gt5.false in
    let scale_is = rw (to_z-of_z c.ranges.precision) at c.scale_of-scale.ensures in
    let fits = room d c.ranges.t scale_is c.if-t-scale.false in
    let rounded_is : to_z w64 (of_z w64 c.rounded_count.result) ≡ away (scale p) count =
    returned c.rounded_count.type_inv (simp (count_is d c.ranges.t scale_is c.if-t-scale.false, scale_is) at c.rounded_count.ensures) in
    rw (d.is, lt-ltb (mag count) (2 ^ 63) fits.0, lt-ltb (nat_abs count + scale p / 2) (2 ^ 63) fits.1) (simp rounded_is at c.added.ensures)
