-- `line_buffers::input::find` stops at the first such byte, or at the text's end.
use Rattle.std.proofs.Common.{arith}
use Rattle.line_buffers.proofs.Places.{passed, here, nowhere, found}
use Rattle.line_buffers.proofs.input.find.Goals as goal

pub returns-then-s-i : goal.returns-then-s-i
returns-then-s-i c =
    let none_passed = here c.args.s.now c.args.b c.loop-i.i (omega arith) c.if-s-i.true in
    found c.args.s.now _ _ _ (omega arith)

pub loop-i-preserved : goal.loop-i-preserved
loop-i-preserved c = (omega arith, omega (arith, passed c.args.s.now c.args.b c.loop-i.i (omega arith) c.if-s-i.false))

pub returns : goal.returns
returns c =
    let none_passed = nowhere c.args.s.now c.args.b c.loop-i.i (omega arith) in
    found c.args.s.now _ _ _ (omega arith)
