-- `template_nodes::node_at` meets its contract: below the count of whole nodes there are six bytes; past it there is
-- END. Assumes nothing.
use mathlib.Core.Path.{◌≡◌, ◌∙◌, sym, ap}
use Prim.Native.Nat.{ℕ, ◌*◌}
use native.Mathlib.Omega.{arith}
use lib.ListN.{get_or-eq_default}
use Rattle.template_nodes.specs.Bytes.{node_from, nodes_in}
use Rattle.template_nodes.specs.Template.{end_node}
use Rattle.template_nodes.specs.declared.Node.{Node}
use Rattle.template_nodes.proofs.Encoding.{node_in, nodes_length}
use Rattle.template_nodes.proofs.node_at.Goals as goal

-- a node
pub returns-then-i-c : goal.returns-then-i-c
returns-then-i-c c =
    let bytes = c.args.c.now in
    let node = node_from bytes (6 * c.args.i) in
    let with_length : ℕ → Node
    = λ n. record { start = node.start; len = n; kind = node.kind; pattern = node.pattern; suffix = node.suffix; accents = node.accents } in
    let length_is : c.from_be_bytes.result ≡ node.len = omega (arith, c.from_be_bytes.ensures) in
    ap with_length length_is ∙ node_in bytes c.args.i c.if-i-c.true

-- past the last node
pub returns : goal.returns
returns c =
    let bytes = c.args.c.now in
    sym (get_or-eq_default (nodes_in bytes) end_node (omega (arith, nodes_length bytes, c.if-i-c.false)))
