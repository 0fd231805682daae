-- `calendar_julian::pg_isoweek2j` counts weeks from week 1.
use Rattle.std.proofs.Common.{◌∙◌, lit<, refl}
use Rattle.calendar_julian.specs.Week.{isoweek2j}
use Rattle.calendar_julian.proofs.Wrapping.{of, result, lit, add, sub, mul, value}
use Rattle.calendar_julian.proofs.pg_isoweek2j.Goals as goal

pub returns : goal.returns
unfolding isoweek2j
returns c =
    let days = mul (sub (of c.ranges.week refl) (lit 1 (lit< tt))) (lit 7 (lit< tt)) in
    value (add days (result c.week_one.type_inv c.week_one.ensures)) ∙ rw (value (of c.ranges.year refl))
