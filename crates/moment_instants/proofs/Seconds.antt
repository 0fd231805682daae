-- The seconds of a moment's parts fit 64 bits, and so do their microseconds where it is tested. Assumes nothing.
-- `returned`: a call's result that fits 64 bits is what its contract gives.
-- `times_mag`: a bound for the magnitude of a product.
-- `hours_fit`, `minutes_fit`, `both_fit`, `clock_fits`: each product and sum of the seconds of the day fits 64 bits.
-- `Ranged`: the numbers of the parts fit 32 bits. `days_fit`, `seconds_fit`: then the seconds since 1970 fit 64 bits.
-- `too_few`, `too_many`, `micros_fit`: seconds past 9,223,372,036,854 before or after 1970 do not fit 64 bits in
-- microseconds; all others do.
-- `offset_fits`, `less_fits`: an offset in microseconds fits 64 bits, and so does its negative.
use mathlib.Core.Path.{◌≡◌, ◌∙◌}
use mathlib.Core.Bool.{true, false, false≢true}
use Prim.Native.Nat.{ℕ, suc, ◌+◌, ◌-◌, ◌*◌, ◌≤◌, ◌<◌, ◌^◌}
use native.Mathlib.Nat.{suc-mul}
use native.Mathlib.Omega.{arith}
use borrow.Author.Rules.{sfits_of}
use borrow.Author.Tests.{le-ltb, ltb-true, ltb-false}
use lib.IntN.{ℤ, pos, negsuc, neg_ℤ, ◌+ℤ◌, ◌*ℤ◌}
use lib.Signed.{lt_z, mag}
use mir.Syntax.{w32, w64}
use mir.Val.{SFits, to_z, of_z}
use mir.Facts.{to_z-of_z}
use Rattle.base_notation.proofs.Magnitudes.{add_mag, neg_mag}
use Rattle.calendar_gregorian.specs.Civil.{days_from_civil}
use Rattle.calendar_gregorian.proofs.DaysFrom.{days_from_mag}
use Rattle.moment_parts.specs.declared.Parts.{Parts}
use Rattle.moment_instants.specs.Instant.{fits64}

-- a call's result that fits, as its contract gives it
pub returned : {r z : ℤ} → mag r < 2 ^ 63 → r ≡ z → to_z w64 (of_z w64 r) ≡ z
returned h e = to_z-of_z {w = w64} (sfits_of h) ∙ e

pub times_mag : (z : ℤ) (k : ℕ) → mag (z *ℤ pos k) ≤ mag z * k + k
times_mag (pos n) k = omega arith
times_mag (negsuc n) k = omega (arith, neg_mag (suc n * k), suc-mul n k)

-- the seconds of the day
module _ {h m s : ℤ} (f : SFits w32 h) (g : SFits w32 m) (e : SFits w32 s) where
  pub hours_fit : SFits w64 (h *ℤ pos 3600)
  hours_fit = omega (arith, times_mag h 3600)

  pub minutes_fit : SFits w64 (m *ℤ pos 60)
  minutes_fit = omega (arith, times_mag m 60)

  hours_minutes : mag (h *ℤ pos 3600 +ℤ m *ℤ pos 60) < 2 ^ 44
  hours_minutes = omega (arith, times_mag h 3600, times_mag m 60, add_mag (h *ℤ pos 3600) (m *ℤ pos 60))

  pub both_fit : SFits w64 (h *ℤ pos 3600 +ℤ m *ℤ pos 60)
  both_fit = omega (arith, hours_minutes)

  pub clock_mag : mag (h *ℤ pos 3600 +ℤ m *ℤ pos 60 +ℤ s) < 2 ^ 45
  clock_mag = omega (arith, hours_minutes, add_mag (h *ℤ pos 3600 +ℤ m *ℤ pos 60) s)

  pub clock_fits : SFits w64 (h *ℤ pos 3600 +ℤ m *ℤ pos 60 +ℤ s)
  clock_fits = omega (arith, clock_mag)

-- each number of a moment's parts fits 32 bits
pub record Ranged (p : Parts) : Type 0 where
  pub year : SFits w32 p.year
  pub month : SFits w32 p.month
  pub day : SFits w32 p.day
  pub hour : SFits w32 p.hour
  pub minute : SFits w32 p.minute
  pub second : SFits w32 p.second
  pub micros : SFits w32 p.micros
  pub precision : SFits w32 p.precision

-- the seconds since 1970
abbrev pub days : Parts → ℤ
days p = days_from_civil p.year p.month p.day

abbrev pub clock : Parts → ℤ
clock p = p.hour *ℤ pos 3600 +ℤ p.minute *ℤ pos 60 +ℤ p.second

module _ {p : Parts} (r : Ranged p) where
  days_mag : mag (days p *ℤ pos 86400) < 2 ^ 60
  days_mag = omega (arith, times_mag (days p) 86400, days_from_mag r.year p.month r.day)

  pub days_fit : SFits w64 (days p *ℤ pos 86400)
  days_fit = omega (arith, days_mag)

  pub seconds_fit : SFits w64 (days p *ℤ pos 86400 +ℤ clock p)
  seconds_fit = omega (arith, days_mag, clock_mag r.hour r.minute r.second, add_mag (days p *ℤ pos 86400) (clock p))

-- the seconds whose microseconds fit 64 bits
pub too_few : (s : ℤ) → lt_z s (negsuc 9223372036853) ≡ true → fits64 (s *ℤ pos 1000000) ≡ false
too_few (pos n) h = absurd (false≢true h)
too_few (negsuc n) h = rw (neg_mag (suc n * 1000000)) (le-ltb (suc n * 1000000 - 1) (2 ^ 63) (omega (arith, ltb-true 9223372036853 n h)))

pub too_many : (s : ℤ) → lt_z (pos 9223372036854) s ≡ true → fits64 (s *ℤ pos 1000000) ≡ false
too_many (pos n) h = le-ltb (n * 1000000) (2 ^ 63) (omega (arith, ltb-true 9223372036854 n h))
too_many (negsuc n) h = absurd (false≢true h)

pub micros_fit : (s : ℤ) → lt_z s (negsuc 9223372036853) ≡ false → lt_z (pos 9223372036854) s ≡ false → SFits w64 (s *ℤ pos 1000000)
micros_fit (pos n) h k = omega (arith, ltb-false 9223372036854 n k)
micros_fit (negsuc n) h k = omega (arith, ltb-false 9223372036853 n h, neg_mag (suc n * 1000000))

-- the microseconds of an offset, and their negative
neg_le : (z : ℤ) → mag (neg_ℤ z) ≤ mag z + 1
neg_le (pos n) = omega (arith, neg_mag n)
neg_le (negsuc n) = omega arith

module _ {s : ℤ} (f : SFits w32 s) where
  pub offset_fits : SFits w64 (s *ℤ pos 1000000)
  offset_fits = omega (arith, times_mag s 1000000)

  pub less_fits : SFits w64 (neg_ℤ (s *ℤ pos 1000000))
  less_fits = omega (arith, times_mag s 1000000, neg_le (s *ℤ pos 1000000))
