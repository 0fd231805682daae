-- `readback::write_and_read`: the buffer begins with the text, so the text is what is read; how a full template's text
-- is read is the theorem `every_back`.
use Rattle.std.proofs.Common.{arith}
use Rattle.std.proofs.lemmas.Result.{err_from_is_err_and}
use lib.ListN.{length-take}
use Rattle.readback.proofs.Buffer.{read, room, not_written}
use Rattle.readback.proofs.write_and_read.Goals as goal

-- nothing was written
pub returns-in_err-n : goal.returns-in_err-n
returns-in_err-n c =
    let refused = err_from_is_err_and c.from_residual.result c.from_residual.ensures.1 in
    rw (refused.1, refused.2) (not_written _ _ _ c.write.ensures c.in_err-n.was)

-- the part that is read is within the buffer
pub slice_bounds-read_by_all-end : goal.slice_bounds-read_by_all-end
slice_bounds-read_by_all-end c = room _ _ _ c.write.ensures c.in_ok-n.was

-- and is as long as the text
pub slice_bounds-read_by_all-end-2 : goal.slice_bounds-read_by_all-end-2
slice_bounds-read_by_all-end-2 c =
    omega (arith, room _ _ _ c.write.ensures c.in_ok-n.was, length-take c.in_ok-n.n c.write.new.out)

-- the text was written, and is read by each answer
pub returns : goal.returns
returns c = read _ _ _ c.write.ensures c.in_ok-n.was _ c.read_by_all.ensures
