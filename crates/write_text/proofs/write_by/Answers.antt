-- `write_text::write_by`: each answer is its case of the definition.
use Rattle.std.proofs.Common.{arith, sym}
use Rattle.base_settings.proofs.Most.{template_most}
use Rattle.write_text.proofs.Answers.{many, not_written, no_moment, no_room, wrote}
use Rattle.write_text.proofs.write_by.Goals as goal

-- there are too many nodes
pub returns-then-nodes_limit-c : goal.returns-then-nodes_limit-c
returns-then-nodes_limit-c c = many c.args.set c.args.c.now c.args.t.now c.args.m c.args.out.now (omega arith)

-- a pattern that is not written
pub returns-in-Some : goal.returns-in-Some
returns-in-Some c = not_written c.args.set c.args.c.now c.args.t.now c.args.m c.args.out.now (omega arith) c.in-Some.pattern (sym c.in-Some.ensures)

-- the numbers are no moment
pub returns-in_default-checked : goal.returns-in_default-checked
returns-in_default-checked c =
    no_moment c.args.set c.args.c.now c.args.t.now c.args.m c.args.out.now (omega arith) (sym c.in_default.ensures) c.in_default-checked.ensures

-- the nodes are few
pub text_length-needed-requires : goal.text_length-needed-requires
text_length-needed-requires c = omega (arith, template_most c.args.set)

-- the buffer is shorter than the text
pub returns-then-out-needed : goal.returns-then-out-needed
returns-then-out-needed c =
    rw (← c.in-Some-checked.ensures)
    (no_room c.args.set c.args.c.now c.args.t.now _ c.args.out.now (omega arith) (sym c.in_default.ensures) c.in-Some-checked.m.is_one
    _ c.text_length-needed.ensures.0 c.if-out-needed.true)

-- the text is written
pub returns : goal.returns
returns c =
    rw (← c.in-Some-checked.ensures)
    (wrote c.args.set c.args.c.now c.args.t.now _ c.args.out.now (omega arith) (sym c.in_default.ensures) c.in-Some-checked.m.is_one
    _ c.text_length-needed.ensures.0 _ (omega arith) c.put_nodes.ensures)
