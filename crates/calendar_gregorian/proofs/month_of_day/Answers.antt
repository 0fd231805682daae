-- `calendar_gregorian::month_of_day` stops at the first month that does not end before the day.
use Rattle.std.proofs.Common.{◌≡◌, ◌∙◌, suc, ap, pos, refl, sym, arith}
use Rattle.std.proofs.lemmas.Int.{ints, to_z-of_z}
use Rattle.calendar_gregorian.proofs.Ends.{starts, ends, stops, goes_on}
use Rattle.calendar_gregorian.proofs.Lengths.{next_month}
use Rattle.calendar_gregorian.proofs.month_of_day.Goals as goal

pub loop-i-init : goal.loop-i-init
loop-i-init c = (refl, starts c.args.leap _)

pub returns-then-day-end : goal.returns-then-day-end
returns-then-day-end c =
    let i = c.loop-i.i in
    let ends_here = next_month c.args.leap c.from.ensures i c.loop-i-test.true c.loop-i.invariant.0 refl in
    let passed = stops c.args.leap _ i c.loop-i-test.true ends_here c.if-day-end.true in
    let day_fits = c.ranges.day in
    omega (arith, ints) ∙ ap pos (ap suc (sym passed) ∙ c.loop-i.invariant.1) ∙ rw to_z-of_z

pub loop-i-preserved : goal.loop-i-preserved
loop-i-preserved c =
    let i = c.loop-i.i in
    let ends_here = next_month c.args.leap c.from.ensures i c.loop-i-test.true c.loop-i.invariant.0 refl in
    let goes = goes_on c.args.leap _ i c.loop-i-test.true ends_here c.if-day-end.false in
    (ends_here, ap suc goes ∙ c.loop-i.invariant.1)

pub returns : goal.returns
returns c =
    let all_passed : c.loop-i.i ≡ 12 = omega arith in
    let day_fits = c.ranges.day in
    ap pos (rw (all_passed, ends c.args.leap, to_z-of_z) at c.loop-i.invariant.1)
