-- `calendar_julian::pg_j2date` makes the definition's date, and no step of it leaves 32 bits.
use Rattle.std.proofs.Common.{◌∙◌, ◌<◌, arith, refl}
use Rattle.calendar_julian.specs.ToDate.{j2date, shifted}
use Rattle.calendar_julian.proofs.Fields.{march_lt, rest, fields}
use Rattle.calendar_julian.proofs.Wrapping.{of, value, low}
use Rattle.calendar_julian.proofs.pg_j2date.Goals as goal

pub overflow_mul-month : goal.overflow_mul-month
overflow_mul-month c =
    let small : c.day_from_march-day.result < 489 = rw c.day_from_march-day.ensures (march_lt _) in
    omega arith

pub overflow_mul-result : goal.overflow_mul-result
overflow_mul-result c =
    let small : c.day_from_march-day.result < 489 = rw c.day_from_march-day.ensures (march_lt _) in
    omega arith

pub returns : goal.returns
unfolding j2date shifted
returns c =
    let days = c.with_skipped-days.result in
    let small : c.day_from_march-day.result < 489 = rw c.day_from_march-day.ensures (march_lt _) in
    rw (rest days) (fields days (omega arith) c.day_from_march-day.result small
    ∙ rw (
      c.day_from_march-day.ensures,
      rest days,
      c.with_skipped-days.ensures,
      c.cast_unsigned.ensures,
      value (of c.ranges.jd refl),
      low c.args.jd c.ranges.jd,
    ))
