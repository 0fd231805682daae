-- `replay::questions::put_node` meets its contract: the kind is put, and then the other fields.
use Rattle.std.proofs.Common.{FitsSigned, rules, to_z-of_z, w64}
use Rattle.line_buffers.proofs.Puts.{put_then}
use Rattle.replay.proofs.questions.put_node.Goals as goal

-- the first node
pub returns-then-first : goal.returns-then-first
returns-then-first c =
    let fits : FitsSigned w64 c.from-kind.result = search rules in
    rw c.if-first.true (put_then _ _ (rw (to_z-of_z fits, c.from-kind.ensures) at c.put_decimal-next.ensures) c.put_fields.ensures)

-- a node after a space
pub returns : goal.returns
returns c =
    let fits : FitsSigned w64 c.from-kind.result = search rules in
    rw c.if-first.false (put_then _ _ (rw (to_z-of_z fits, c.from-kind.ensures) at c.put_after-next.ensures) c.put_fields-2.ensures)
