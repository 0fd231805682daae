-- `calendar_gregorian::day_of_year` adds at most 366 days to a day of 32 bits, which cannot leave 64.
use Rattle.std.proofs.Common.{w32, FitsSigned, rules}
use Rattle.std.proofs.lemmas.Int.{to_z-of_z}
use Rattle.calendar_gregorian.specs.Civil.{day_of_year_ℤ}
use Rattle.calendar_gregorian.proofs.DaysFrom.{day_of_year_fits}
use Rattle.calendar_gregorian.proofs.Signed.{wide}
use Rattle.calendar_gregorian.proofs.day_of_year.Goals as goal

pub returns : goal.returns
unfolding day_of_year_ℤ
returns c =
    let year_fits = c.ranges.year in
    let month_fits = c.ranges.month in
    let before_fits : FitsSigned w32 c.days_before.result = search rules in
    let fits = day_of_year_fits c.args.year c.args.month c.ranges.day in
    rw (c.from.ensures, c.from-2.ensures, wide before_fits, wide c.ranges.day, c.days_before.ensures, c.pg_is_leap.ensures) (simp to_z-of_z)
