-- `calendar_julian::pg_date2isoyear` calls what the definition does.
use Rattle.std.proofs.Common.{◌∙◌, lit<, refl}
use Rattle.calendar_julian.specs.Week.{date2isoyear}
use Rattle.calendar_julian.proofs.Wrapping.{of, result, lit, add, value}
use Rattle.calendar_julian.proofs.pg_date2isoyear.Goals as goal

pub returns : goal.returns
unfolding date2isoyear
returns c =
    let from = result c.counted_from-from.type_inv c.counted_from-from.ensures in
    value (result c.week_year.type_inv c.week_year.ensures)
    ∙ rw (
      value (add from (lit 1 (lit< tt))),
      value from,
      value (result c.pg_date2j-dayn.type_inv c.pg_date2j-dayn.ensures),
      value (of c.ranges.year refl),
      value (of c.ranges.mon refl),
      value (of c.ranges.mday refl),
    )
