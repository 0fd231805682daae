-- `write_text::node_length`: a node's text is its piece's or its literal, and both are measured.
use Rattle.std.proofs.Common.{◌∙◌, length, arith, ap, sym}
use Rattle.template_patterns.specs.Cases.{case_of}
use Rattle.write_text.proofs.Lengths.{action_size, literal_text_lem}
use Rattle.write_text.proofs.node_length.Goals as goal

-- a literal
pub returns-then-n-ne-FN_ACTION : goal.returns-then-n-ne-FN_ACTION
returns-then-n-ne-FN_ACTION c =
    let text = literal_text_lem c.args.t.now c.args.m.moment c.args.n c.if-n-ne-FN_ACTION.true in
    (c.literal_length.ensures.0 ∙ sym (ap length text), c.literal_length.ensures.1)

-- a pattern
pub returns : goal.returns
returns c =
    let measured = c.piece_length.ensures in (
      action_size c.args.t.now c.args.m.moment c.args.n c.if-n-ne-FN_ACTION.false _ c.piece_of.ensures _ (measured.0 (case_of c.args.n.pattern)),
      omega (arith, measured.1),
    )
