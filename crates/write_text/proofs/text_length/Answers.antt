-- `write_text::text_length`: each turn adds the node's length; 256 nodes of 65,535 bytes at most are 16,776,960.
use Rattle.std.proofs.Common.{length, arith, ap}
use Rattle.template_nodes.specs.Bytes.{nodes_in}
use Rattle.write_text.proofs.Turns.{node_left, none_left, size_next, text_end}
use Rattle.write_text.proofs.text_length.Goals as goal

-- the node's length is added
pub loop-i-preserved : goal.loop-i-preserved
loop-i-preserved c =
    let left_is = size_next (nodes_in c.args.c.now) c.loop-i.i (node_left c.args.c.now c.loop-i.i (omega arith)) c.args.t.now c.args.m.moment in
    let here_is = rw c.node_at.ensures at c.node_length-total.ensures.0 in
    (omega (arith, c.node_length-total.ensures.1, c.loop-i.invariant.0), omega (arith, left_is, here_is, c.loop-i.invariant.1))

-- all nodes are measured
pub returns : goal.returns
returns c =
    let nothing_left = text_end (nodes_in c.args.c.now) c.loop-i.i (none_left c.args.c.now c.loop-i.i (omega arith)) c.args.t.now c.args.m.moment in
    (omega (arith, ap length nothing_left, c.loop-i.invariant.1), omega (arith, c.requires, c.loop-i.invariant.0))
