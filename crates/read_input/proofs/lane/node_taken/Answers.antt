-- `read_input::lane::node_taken`: a pattern that is taken, or a literal and the characters after it.
use Rattle.std.proofs.Common.{arith}
use Rattle.read_input.proofs.Plainly.{node_on, of_literal, of_pattern}
use Rattle.read_input.proofs.lane.node_taken.Goals as goal

pub returns-then-n-eq-FN_ACTION : goal.returns-then-n-eq-FN_ACTION
returns-then-n-eq-FN_ACTION c =
    node_on _ (omega arith)
    (λ whole turned.
    of_pattern _ _ _ whole _ _ _ turned c.requires.0 c.requires.3 _ c.node_at-n.ensures c.if-n-eq-FN_ACTION.true
    (c.pattern_taken.ensures.taken _ c.in_ok-place.was))

pub returns : goal.returns
returns c =
    let chars = c.literal_taken.ensures in
    node_on c.literal_taken.result (omega (arith, chars.on))
    (λ whole turned.
    chars.turned _ _ whole
    (of_literal _ _ _ whole _ _ _ turned c.requires.0 c.requires.3 _ c.node_at-n.ensures c.if-n-eq-FN_ACTION.false))
