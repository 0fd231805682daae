-- `moment_year::year_in_century` meets its contract: each way out is one case of the definition, and the last two
-- digits fit 32 bits with either sign. Assumes nothing.
use Rattle.std.specs.Prelude.{ℤ, pos}
use Rattle.std.specs.Int.Signed.{rem_z}
use lib.Dec.{lit<}
use lib.IntN.{+ℤ_idl, +ℤ_idr}
use mir.Facts.{to_z-of_z}
use mir.Syntax.{w32}
use mir.Val.{SFits}
use Rattle.base_wrapping.proofs.Fits.{wrap_back}
use Rattle.moment_year.specs.Year.{year_in_century}
use Rattle.moment_sums.proofs.Fits.{rem_fits, neg_rem_fits, wrap_twice}
use Rattle.moment_sums.proofs.Tests.{absent, present}
use Rattle.moment_year.proofs.year_in_century.Goals as goal

-- the last two digits
digits : {z : ℤ} → SFits w32 z → SFits w32 (rem_z z (pos 100))
digits {z} f = rem_fits z 100 f

-- they are 00, after Christ
pub returns-then-y-eq0 : goal.returns-then-y-eq0
unfolding year_in_century
returns-then-y-eq0 c =
    let century_back = to_z-of_z c.ranges.century in
    simp (
      absent (digits c.ranges.year) (simp (to_z-of_z c.ranges.year) at c.if-y-eq0.true),
      simp century_back at c.if-century-lt0.false,
      c.wrapping_mul-then-y-eq0.ensures,
      wrap_back,
      century_back,
      +ℤ_idr,
      wrap_twice,
    )

-- they are not, before Christ
pub returns-then-century-lt0-2 : goal.returns-then-century-lt0-2
unfolding year_in_century
returns-then-century-lt0-2 c =
    let century_back = to_z-of_z c.ranges.century in
    let year_back = to_z-of_z c.ranges.year in
    simp (
      present (digits c.ranges.year) (simp year_back at c.if-y-eq0.false),
      simp century_back at c.if-century-lt0-2.true,
      c.checked_add-then-century-lt0-2.ensures,
      c.checked_add.ensures,
      c.checked_mul-hundreds.ensures,
      c.wrapping_add-then-century-lt0-2.ensures,
      wrap_back,
      century_back,
      year_back,
      to_z-of_z (digits c.ranges.year),
      +ℤ_idl,
      to_z-of_z (neg_rem_fits c.args.year 100 (lit< tt) (lit< tt)),
    )

-- they are not, after Christ
pub returns : goal.returns
unfolding year_in_century
returns c =
    let century_back = to_z-of_z c.ranges.century in
    let year_back = to_z-of_z c.ranges.year in
    simp (
      present (digits c.ranges.year) (simp year_back at c.if-y-eq0.false),
      simp century_back at c.if-century-lt0-2.false,
      c.checked_add-2.ensures,
      c.checked_mul.ensures,
      c.wrapping_sub.ensures,
      wrap_back,
      century_back,
      year_back,
      to_z-of_z (digits c.ranges.year),
    )
