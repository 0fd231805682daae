-- `calendar_gregorian::days_before` adds the length of one month more, and in the end has those of all months before
-- the month.
use Rattle.std.proofs.Common.{◌∙◌, ap, [], get_or, pos, arith}
use Rattle.std.proofs.lemmas.Int.{to_z-of_z}
use Rattle.std.proofs.lemmas.List.{get_or-take, length-take}
use Rattle.calendar_gregorian.proofs.Lengths.{rows, row_length, next_month, days_passed}
use Rattle.calendar_gregorian.proofs.days_before.Goals as goal

pub loop-length-preserved : goal.loop-length-preserved
loop-length-preserved c =
    let i = c.loop-length.length-index in
    let n = c.months_before.result in
    let row = get_or rows c.from.result [] in
    let within = length-take n row in
    let twelve = row_length c.args.leap c.from.ensures in
    next_month c.args.leap c.from.ensures i (omega arith) c.loop-length.invariant (get_or-take n row i (pos 0) (omega arith))

pub returns : goal.returns
returns c =
    let within = length-take c.months_before.result (get_or rows c.from.result []) in
    let twelve = row_length c.args.leap c.from.ensures in
    let month_fits = c.ranges.month in
    let months = simp to_z-of_z at c.months_before.ensures in
    c.loop-length.invariant ∙ ap pos (days_passed c.args.leap c.args.month (omega arith))
