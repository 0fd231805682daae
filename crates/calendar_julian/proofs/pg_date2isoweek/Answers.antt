-- `calendar_julian::pg_date2isoweek` calls what the definition does.
use Rattle.std.proofs.Common.{◌∙◌, lit<, refl}
use Rattle.calendar_julian.specs.Week.{date2isoweek}
use Rattle.calendar_julian.proofs.Wrapping.{of, result, lit, add, value}
use Rattle.calendar_julian.proofs.pg_date2isoweek.Goals as goal

pub returns : goal.returns
unfolding date2isoweek
returns c =
    let year = of c.ranges.year refl in
    value (result c.week_of.type_inv c.week_of.ensures)
    ∙ rw (
      value (result c.week_year.type_inv c.week_year.ensures),
      value (result c.counted_from-from.type_inv c.counted_from-from.ensures),
      value (result c.pg_date2j-dayn.type_inv c.pg_date2j-dayn.ensures),
      value (add year (lit 1 (lit< tt))),
      value year,
      value (of c.ranges.mon refl),
      value (of c.ranges.mday refl),
    )
