-- `read_input::dch_from_char`: after the lane what is left gives the whole, and so after a pattern that is read.
use Rattle.std.proofs.Common.{◌≡◌, ◌∙◌, ◌<◌, ap, arith, length, refl, sym}
use Rattle.template_nodes.specs.Bytes.{nodes_in}
use Rattle.template_nodes.specs.declared.Node.{Node}
use Rattle.template_nodes.proofs.Encoding.{nodes_length}
use Rattle.read_input.proofs.Turns.{begun, goes_on, input_ends, stops, template_ends, then_on}
use Rattle.read_input.proofs.Verdicts.{read_is, verdict_read, whole_went}
use Rattle.read_input.proofs.dch_from_char.Goals as goal

pub loop-i-init : goal.loop-i-init
loop-i-init c = rw c.requires.1 (begun _ _ _)

-- the template ended in the lane
pub returns-then-c-next : goal.returns-then-c-next
returns-then-c-next c =
    let after_lane = then_on _ _ _ _ _ _ _ c.loop-i.invariant c.lane-next.ensures.turned in
    verdict_read (rw c.read.ensures (template_ends _ _ _ _ _ _ _ after_lane (omega (arith, nodes_length c.args.c.now))))

-- the input ended
pub returns-then-s-place : goal.returns-then-s-place
returns-then-s-place c =
    let after_lane = then_on _ _ _ _ _ _ _ c.loop-i.invariant c.lane-next.ensures.turned in
    verdict_read (rw c.read-then-s-place.ensures (input_ends _ _ _ _ _ _ _ after_lane c.if-s-place.true))

-- a pattern was refused
pub returns-in-Err : goal.returns-in-Err
returns-in-Err c =
    let after_lane = then_on _ _ _ _ _ _ _ c.loop-i.invariant c.lane-next.ensures.turned in
    let nodes = nodes_in c.args.c.now in
    let one_left : c.lane-next.result.next < length nodes = omega (arith, nodes_length c.args.c.now) in
    let pattern : c.node_at-n.result.kind ≡ 1
    = ap (λ (n : Node). n.kind) c.node_at-n.ensures ∙ c.lane-next.ensures.stops one_left (omega arith) in
    let went = c.pattern_read-r.ensures in
    whole_went went
    (stops _ _ _ _ _ _ _ after_lane one_left (omega arith) _ _ c.node_at-n.ensures c.node_at-node_after.ensures pattern
    _ refl _ (sym went.verdict ∙ c.in-Err.is))

-- a pattern was read: on to the nodes after it
pub loop-i-preserved : goal.loop-i-preserved
loop-i-preserved c =
    let after_lane = then_on _ _ _ _ _ _ _ c.loop-i.invariant c.lane-next.ensures.turned in
    let nodes = nodes_in c.args.c.now in
    let one_left : c.lane-next.result.next < length nodes = omega (arith, nodes_length c.args.c.now) in
    let pattern : c.node_at-n.result.kind ≡ 1
    = ap (λ (n : Node). n.kind) c.node_at-n.ensures ∙ c.lane-next.ensures.stops one_left (omega arith) in
    let was_read = c.in_default.is in
    goes_on _ _ _ _ _ _ _ after_lane one_left (omega arith) _ _ c.node_at-n.ensures c.node_at-node_after.ensures pattern
    _ (read_is c.pattern_read-r.ensures was_read) was_read

-- the template ended with a pattern, or has no nodes
pub returns : goal.returns
returns c =
    verdict_read (rw c.read-2.ensures (template_ends _ _ _ _ _ _ _ c.loop-i.invariant (omega (arith, nodes_length c.args.c.now))))
