-- `calendar_julian::week_of` is a quotient by seven, which leaves room for 1 more.
use Rattle.std.proofs.Common.{◌∙◌, refl}
use Rattle.calendar_julian.specs.Week.{week_of}
use Rattle.calendar_julian.proofs.Sevens.{week_fits}
use Rattle.calendar_julian.proofs.Wrapping.{of, result, sub, quot, value}
use Rattle.calendar_julian.proofs.week_of.Goals as goal

pub returns : goal.returns
unfolding week_of
returns c =
    let weeks = quot 7 (sub (of c.ranges.day refl) (result c.week_one.type_inv c.week_one.ensures)) in
    rw (value weeks) (value (of (week_fits _) refl) ∙ rw (value (of c.ranges.year refl)))
