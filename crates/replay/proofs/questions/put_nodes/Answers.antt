-- `replay::questions::put_nodes` meets its contract: where no node is left, all are put.
use Rattle.std.proofs.Common.{◌∙◌, false, arith}
use Rattle.template_nodes.proofs.Nodes.{small_nodes}
use Rattle.replay.proofs.Nodes.{begun, ended, more, node_is}
use Rattle.replay.proofs.questions.put_nodes.Goals as goal

pub loop-i-init : goal.loop-i-init
loop-i-init c = begun _ _ _

pub loop-i-preserved : goal.loop-i-preserved
loop-i-preserved c =
    let parsed = c.parse_format-count.ensures in
    more c.loop-i.invariant _ (omega (arith, parsed.count)) (c.node_at.ensures ∙ node_is (small_nodes false _) parsed _ (omega arith)) c.put_node-next.ensures

-- no node is left
pub returns : goal.returns
returns c = ended c.loop-i.invariant (omega (arith, c.parse_format-count.ensures.count))
