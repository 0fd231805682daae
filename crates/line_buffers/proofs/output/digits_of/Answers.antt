-- `line_buffers::output::digits_of` stores one digit more, and stops when nothing is left, before `text` is full.
use Rattle.std.proofs.Common.{arith}
use Rattle.line_buffers.proofs.Digits.{begun, more, ended, room_left}
use Rattle.line_buffers.proofs.output.digits_of.Goals as goal

pub loop-first-init : goal.loop-first-init
loop-first-init c = begun c.args.n c.args.text.now (omega arith) (omega arith)

pub loop-first-preserved : goal.loop-first-preserved
loop-first-preserved c = more _ _ _ _ c.loop-first.invariant (omega arith) (omega arith) c.if-rest-eq0.false

pub returns-then-rest-eq0 : goal.returns-then-rest-eq0
returns-then-rest-eq0 c = (omega arith, ended _ _ _ _ c.loop-first.invariant (omega arith) (omega arith) c.if-rest-eq0.true)

pub unreachable-requires : goal.unreachable-requires
unreachable-requires c = room_left _ _ _ _ c.loop-first.invariant (omega arith) (omega arith)
