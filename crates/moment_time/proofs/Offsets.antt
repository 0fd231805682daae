-- Hours and minutes of an offset, joined. Assumes nothing.
-- Of 0 to 15 hours and 0 to 59 minutes:
-- `hours_fit`, `minutes_fit`, `seconds_fit`: the products and the sum fit an i32; `neg_seconds_fit`: so do the seconds
-- with the other sign.
-- `east_range`, `west_range`: the offset is at most 57540 seconds, 15 hours and 59 minutes, with either sign.
use mathlib.Core.Path.{◌≡◌, refl}
use Prim.Native.Nat.{ℕ, zero, suc, ◌+◌, ◌*◌, ◌≤◌}
use native.Mathlib.Omega.{arith}
use lib.IntN.{ℤ, pos, neg_ℤ, nat_abs, ◌+ℤ◌, ◌*ℤ◌}
use mir.Syntax.{w32}
use mir.Val.{SFits}
use Rattle.base_notation.proofs.Magnitudes.{neg_mag_le}
use Rattle.moment_sums.specs.Within.{Within}

-- the offset in minutes and in seconds, without its sign
abbrev pub minutes : ℤ → ℤ → ℤ
minutes h m = h *ℤ pos 60 +ℤ m

abbrev pub seconds : ℤ → ℤ → ℤ
seconds h m = minutes h m *ℤ pos 60

-- the magnitude of n with the other sign, and that it fits
neg_abs : (n : ℕ) → nat_abs (neg_ℤ (pos n)) ≡ n
neg_abs zero = refl
neg_abs (suc n) = refl

neg_fits : (n : ℕ) → n ≤ 57540 → SFits w32 (neg_ℤ (pos n))
neg_fits n h = omega (arith, neg_mag_le n 57540 (omega arith))

-- of 0 to 15 hours and 0 to 59 minutes
module _ {h m : ℤ} (p : Within 0 15 h) (q : Within 0 59 m) where
  pub hours_fit : SFits w32 (h *ℤ pos 60)
  hours_fit = rw p.is (omega arith)

  pub minutes_fit : SFits w32 (minutes h m)
  minutes_fit = rw (p.is, q.is) (omega arith)

  pub seconds_fit : SFits w32 (seconds h m)
  seconds_fit = rw (p.is, q.is) (omega arith)

  pub neg_seconds_fit : SFits w32 (neg_ℤ (seconds h m))
  neg_seconds_fit = rw (p.is, q.is) (neg_fits ((p.at * 60 + q.at) * 60) (omega arith))

  pub east_range : nat_abs (seconds h m) ≤ 57540
  east_range = rw (p.is, q.is) (omega arith)

  pub west_range : nat_abs (neg_ℤ (seconds h m)) ≤ 57540
  west_range = rw (p.is, q.is, neg_abs ((p.at * 60 + q.at) * 60)) (omega arith)
