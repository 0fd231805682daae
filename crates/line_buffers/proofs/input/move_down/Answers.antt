-- `line_buffers::input::move_down` copies the part to the front.
use Rattle.line_buffers.proofs.Moves.{moved}
use Rattle.line_buffers.proofs.input.move_down.Goals as goal

pub returns : goal.returns
returns c = rw c.copy_within.ensures.after (moved c.args.buf.now c.args.from c.args.to c.min-end.result c.min-end.ensures c.if-from-end.false)
