-- `read_input::lane::lane`: a node is left where the loop goes on, and none where it ends.
use Rattle.std.proofs.Common.{◌<◌, arith, length}
use Rattle.template_nodes.specs.Bytes.{nodes_in}
use Rattle.template_nodes.proofs.Encoding.{nodes_length}
use Rattle.read_input.proofs.lane.lane.Goals as goal

pub node_taken-requires : goal.node_taken-requires
node_taken-requires c =
    let inv = c.loop-i.invariant in
    let one_left : c.loop-i.i < length (nodes_in c.args.c.now) = omega (arith, nodes_length c.args.c.now) in
    (one_left, inv.1.none, inv.1.payable, omega arith, omega arith)

-- the template ended
pub returns : goal.returns
returns c =
    let inv = c.loop-i.invariant in
    record { on = inv.0; turned = inv.1; stops = λ h l. absurd (omega (arith, nodes_length c.args.c.now, h)) }
