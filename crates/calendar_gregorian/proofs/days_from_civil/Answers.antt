-- `calendar_gregorian::days_from_civil` counts from a start that is whole cycles of 400 years before year 0: its sum is
-- the definition's, and fits 64 bits.
use Rattle.std.proofs.Common.{arith, w32, to_z, of_z}
use Rattle.std.proofs.lemmas.Int.{ints, to_z-of_z}
use Rattle.calendar_gregorian.proofs.DaysFrom.{since_start_le, day_of_year_mag, sum_is}
use Rattle.calendar_gregorian.proofs.days_from_civil.Goals as goal

pub overflow_cast-result : goal.overflow_cast-result
overflow_cast-result c =
    let year_fits = c.ranges.year in
    let before = simp to_z-of_z at c.days_before_year.ensures in
    omega (arith, since_start_le year_fits)

pub overflow_sub-result : goal.overflow_sub-result
overflow_sub-result c =
    let year_fits = c.ranges.year in
    let before = simp to_z-of_z at c.days_before_year.ensures in
    omega (arith, ints, since_start_le year_fits)

pub overflow_add-result : goal.overflow_add-result
overflow_add-result c =
    let year_fits = c.ranges.year in
    let before = simp to_z-of_z at c.days_before_year.ensures in
    omega (arith, ints, since_start_le year_fits, day_of_year_mag (to_z w32 (of_z w32 c.args.year)) (to_z w32 (of_z w32 c.args.month)) (to_z w32 (of_z w32 c.args.day)))

pub returns : goal.returns
returns c =
    let year_fits = c.ranges.year in
    let month_fits = c.ranges.month in
    let day_fits = c.ranges.day in
    let before = simp to_z-of_z at c.days_before_year.ensures in
    let day = simp to_z-of_z at c.day_of_year.ensures in
    sum_is year_fits before c.args.month day_fits day
