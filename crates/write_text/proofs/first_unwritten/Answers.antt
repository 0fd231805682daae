-- `write_text::first_unwritten`: the node here is the first that is not written, or the rest has it, or all are
-- written.
use Rattle.std.proofs.Common.{◌∙◌, ℕ, arith, ap, sym}
use Rattle.std.specs.Prelude.{Some}
use Rattle.template_nodes.specs.Bytes.{nodes_in}
use Rattle.template_nodes.specs.declared.Node.{Node}
use Rattle.write_text.specs.Writer.{named}
use Rattle.write_text.proofs.Turns.{node_left, none_left, unwritten_end, unwritten_here, unwritten_next}
use Rattle.write_text.proofs.first_unwritten.Goals as goal

-- the node here is not written
pub returns-then-not-is_written : goal.returns-then-not-is_written
returns-then-not-is_written c =
    let unwritten = rw c.node_at-n.ensures at (sym c.is_written.ensures ∙ c.if-not-is_written.true) in
    ap (λ (p : ℕ). Some p) (c.named.ensures ∙ ap (λ (x : Node). named x.pattern) c.node_at-n.ensures)
    ∙ sym (unwritten_here (nodes_in c.args.c.now) c.loop-i.i (node_left c.args.c.now c.loop-i.i (omega arith)) unwritten)
    ∙ c.loop-i.invariant

-- the node here is written
pub loop-i-preserved : goal.loop-i-preserved
loop-i-preserved c =
    let written = rw c.node_at-n.ensures at (sym c.is_written.ensures ∙ c.if-not-is_written.false) in
    sym (unwritten_next (nodes_in c.args.c.now) c.loop-i.i (node_left c.args.c.now c.loop-i.i (omega arith)) written) ∙ c.loop-i.invariant

-- every node is written
pub returns : goal.returns
returns c = sym (unwritten_end (nodes_in c.args.c.now) c.loop-i.i (none_left c.args.c.now c.loop-i.i (omega arith))) ∙ c.loop-i.invariant
