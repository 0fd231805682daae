-- `write_text::put_nodes`: each turn puts the text of the node here.
use Rattle.std.proofs.Common.{◌∙◌, length, arith}
use Rattle.template_nodes.specs.Bytes.{nodes_in}
use Rattle.write_pieces.proofs.Puts.{put_length}
use Rattle.write_text.proofs.Turns.{node_left, none_left, put_next, room_here, text_end}
use Rattle.write_text.proofs.put_nodes.Goals as goal

-- there is room for the node
pub put_node-at-requires : goal.put_node-at-requires
put_node-at-requires c =
    let left = node_left c.args.c.now c.loop-i.i (omega arith) in
    let room = room_here (nodes_in c.args.c.now) c.loop-i.i left c.args.t.now c.args.m.moment _ _ c.loop-i.invariant.0 in
    rw c.node_at-n.ensures room

-- the node is put
pub loop-i-preserved : goal.loop-i-preserved
loop-i-preserved c =
    let put = c.put_node-at.ensures in
    let left = node_left c.args.c.now c.loop-i.i (omega arith) in
    let here = rw c.node_at-n.ensures at put in
    let turn = put_next (nodes_in c.args.c.now) c.loop-i.i left c.args.t.now c.args.m.moment (length c.loop-i.out) c.loop-i.invariant.0 here in
    (omega (arith, turn.0, put_length put), turn.1 ∙ c.loop-i.invariant.1)

-- all nodes are put
pub returns : goal.returns
returns c =
    rw (text_end (nodes_in c.args.c.now) c.loop-i.i (none_left c.args.c.now c.loop-i.i (omega arith)) c.args.t.now c.args.m.moment) at c.loop-i.invariant.1
