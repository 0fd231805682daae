-- `moment_time::offset_of` meets its contract: its tests are the definition's, and hours below 16 with minutes below 60
-- keep every product and sum in 32 bits. Assumes nothing.
use Rattle.std.proofs.Common.{◌≡◌, ◌∙◌, sym}
use Rattle.std.specs.Prelude.{Bool, true, ◌&&◌, pos, neg_ℤ, ◌+ℤ◌, ◌-ℤ◌, ◌*ℤ◌}
use lib.IntN.{+ℤ_idl}
use mir.Facts.{to_z-of_z}
use Rattle.base_notation.proofs.Cases.{both}
use Rattle.base_wrapping.proofs.Fits.{read}
use Rattle.read_fields.specs.Fields.{get, tzsign, tzh, tzm}
use Rattle.read_fields.specs.declared.Fields.{Fields}
use Rattle.moment_sums.specs.Within.{Within, below}
use Rattle.moment_sums.proofs.Known.{Known, known}
use Rattle.moment_sums.proofs.Tests.{absent, present}
use Rattle.moment_sums.proofs.Within.{from_zero}
use Rattle.moment_time.specs.Time.{checked_offset, east_of, offset_in_range, offset_of}
use Rattle.moment_time.proofs.Offsets.{seconds, hours_fit, minutes_fit, seconds_fit, neg_seconds_fit}
use Rattle.moment_time.proofs.offset_of.Goals as goal

-- the hours are 0 to 15 and the minutes 0 to 59
record InRange (f : Fields) : Type 0 where
  fields : Known f
  tests : (below (get f tzh) 16 ≡ true) × (below (get f tzm) 60 ≡ true)

in_range : (f : Fields) {b : Bool} → Known f → b ≡ (below (read (get f tzh)) 16 && below (read (get f tzm)) 60) → b ≡ true → InRange f
in_range f fields e passed =
    record { fields = fields; tests = both (below (get f tzh) 16) (below (get f tzm) 60) (simp fields.back at (sym e ∙ passed)) }

module _ {f : Fields} (r : InRange f) where
  hours : Within 0 15 (get f tzh)
  hours = from_zero (get f tzh) r.tests.0

  minutes : Within 0 59 (get f tzm)
  minutes = from_zero (get f tzm) r.tests.1

  -- the code's products and sum are those of the numbers
  seconds_are : read (read (read (read (get f tzh) *ℤ pos 60) +ℤ read (get f tzm)) *ℤ pos 60) ≡ seconds (get f tzh) (get f tzm)
  seconds_are =
      rw (r.fields.back tzh, r.fields.back tzm, to_z-of_z (hours_fit hours minutes), to_z-of_z (minutes_fit hours minutes))
      (to_z-of_z (seconds_fit hours minutes))

  negated : read (pos 0 -ℤ seconds (get f tzh) (get f tzm)) ≡ neg_ℤ (seconds (get f tzh) (get f tzm))
  negated = rw (+ℤ_idl (neg_ℤ (seconds (get f tzh) (get f tzm)))) (to_z-of_z (neg_seconds_fit hours minutes))

-- no sign was set
pub returns-then-sign-eq0 : goal.returns-then-sign-eq0
unfolding checked_offset offset_in_range offset_of
returns-then-sign-eq0 c = simp (absent ((known c.args.f _ c.well_formed.0).fits tzsign) c.if-sign-eq0.true)

-- hours or minutes are out of range
pub returns-then-not-offset_in_range : goal.returns-then-not-offset_in_range
unfolding checked_offset offset_in_range
returns-then-not-offset_in_range c =
    let fields = known c.args.f _ c.well_formed.0 in
    simp (
      present (fields.fits tzsign) c.if-sign-eq0.false,
      simp fields.back at (sym c.offset_in_range.ensures ∙ c.if-not-offset_in_range.true),
    )

pub overflow_sub-result : goal.overflow_sub-result
overflow_sub-result c =
    let r = in_range c.args.f (known c.args.f _ c.well_formed.0) c.offset_in_range.ensures c.if-not-offset_in_range.false in
    rw (seconds_are r, +ℤ_idl (neg_ℤ (seconds (get c.args.f tzh) (get c.args.f tzm)))) (neg_seconds_fit (hours r) (minutes r))

-- the sign is minus
pub returns-then-sign-lt0 : goal.returns-then-sign-lt0
unfolding checked_offset offset_in_range offset_of east_of
returns-then-sign-lt0 c =
    let fields = known c.args.f _ c.well_formed.0 in
    let r = in_range c.args.f fields c.offset_in_range.ensures c.if-not-offset_in_range.false in
    simp (present (fields.fits tzsign) c.if-sign-eq0.false, r.tests.0, r.tests.1, rw (fields.back tzsign) at c.if-sign-lt0.true, seconds_are r, negated r)

-- the sign is plus
pub returns-else-sign-lt0 : goal.returns-else-sign-lt0
unfolding checked_offset offset_in_range offset_of east_of
returns-else-sign-lt0 c =
    let fields = known c.args.f _ c.well_formed.0 in
    let r = in_range c.args.f fields c.offset_in_range.ensures c.if-not-offset_in_range.false in
    simp (present (fields.fits tzsign) c.if-sign-eq0.false, r.tests.0, r.tests.1, rw (fields.back tzsign) at c.if-sign-lt0.false, seconds_are r)
