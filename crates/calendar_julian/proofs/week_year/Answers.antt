-- `calendar_julian::week_year` makes the two tests of the definition.
use Rattle.std.proofs.Common.{◌∙◌, sym, refl}
use Rattle.calendar_julian.specs.Week.{week_year}
use Rattle.calendar_julian.proofs.Wrapping.{of, result, value}
use Rattle.calendar_julian.proofs.week_year.Goals as goal
use Rattle.calendar_julian.proofs.week_year.Goals.{then-week_of-lt52, else-week_of-lt52}

pub returns-then-day-week_one : goal.returns-then-day-week_one
unfolding week_year
returns-then-day-week_one c =
    let day = of c.ranges.day refl in
    let from = of c.ranges.from refl in
    let week = result c.week_of.type_inv c.week_of.ensures in
    value from ∙ elim c.if-week_of-lt52.branch [
      | then-week_of-lt52 w ↦ rw (rw (value week, value day, value from) at w.if-week_of-lt52.true)
      | else-week_of-lt52 w ↦
          let monday = result w.week_one.type_inv w.week_one.ensures in
          rw (
            rw (value week, value day, value from) at w.if-week_of-lt52.false,
            rw (value monday, value day, value (of c.ranges.next refl)) at (sym w.value-is ∙ c.if-day-week_one.true),
          )
    ]

pub returns-else-day-week_one : goal.returns-else-day-week_one
unfolding week_year
returns-else-day-week_one c =
    let day = of c.ranges.day refl in
    let from = of c.ranges.from refl in
    let next = of c.ranges.next refl in
    let week = result c.week_of.type_inv c.week_of.ensures in
    value next ∙ elim c.if-week_of-lt52.branch [
      | then-week_of-lt52 w ↦ cc
      | else-week_of-lt52 w ↦
          let monday = result w.week_one.type_inv w.week_one.ensures in
          rw (
            rw (value week, value day, value from) at w.if-week_of-lt52.false,
            rw (value monday, value day, value next) at (sym w.value-is ∙ c.if-day-week_one.false),
          )
    ]
