-- `calendar_julian::week_one` goes back from January 4 to a Monday.
use Rattle.std.proofs.Common.{◌∙◌, lit<, refl}
use Rattle.calendar_julian.specs.Week.{week_one}
use Rattle.calendar_julian.proofs.Wrapping.{of, result, lit, sub, value}
use Rattle.calendar_julian.proofs.week_one.Goals as goal

pub returns : goal.returns
unfolding week_one
returns c =
    let day4 = result c.pg_date2j-day4.type_inv c.pg_date2j-day4.ensures in
    let weekday = result c.pg_j2day.type_inv c.pg_j2day.ensures in
    value (sub day4 weekday) ∙ rw (value (sub day4 (lit 1 (lit< tt))), value (of c.ranges.year refl))
