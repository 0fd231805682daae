-- `calendar_julian::counted_from` compares a day with the Monday of week 1, as the definition does.
use Rattle.std.proofs.Common.{◌∙◌, lit<, refl}
use Rattle.calendar_julian.specs.Week.{counted_from}
use Rattle.calendar_julian.proofs.Wrapping.{of, result, lit, sub, value}
use Rattle.calendar_julian.proofs.counted_from.Goals as goal

pub returns-then-day-week_one : goal.returns-then-day-week_one
unfolding counted_from
returns-then-day-week_one c =
    let year = of c.ranges.year refl in
    let monday = result c.week_one.type_inv c.week_one.ensures in
    let before = rw (value (of c.ranges.day refl), value monday, value year) at c.if-day-week_one.true in
    value (sub year (lit 1 (lit< tt))) ∙ rw before

pub returns-else-day-week_one : goal.returns-else-day-week_one
unfolding counted_from
returns-else-day-week_one c =
    let year = of c.ranges.year refl in
    let monday = result c.week_one.type_inv c.week_one.ensures in
    let not_before = rw (value (of c.ranges.day refl), value monday, value year) at c.if-day-week_one.false in
    value year ∙ rw not_before
