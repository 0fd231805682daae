-- `replay::questions::put_named` meets its contract: the tests of the name are the definition's.
use Rattle.std.proofs.Common.{◌≡◌, sym, true, false}
use Rattle.base_notation.specs.Text.{utf8}
use Rattle.line_questions.specs.Items.{same}
use Rattle.replay.specs.Answers.{named_text}
use Rattle.replay.proofs.questions.put_named.Goals as goal

-- the nodes of a template
pub returns-then-eq : goal.returns-then-eq
unfolding named_text
returns-then-eq c =
    let parse : same c.args.name.now (utf8 "parse") ≡ true = rw (c.as_slice.ensures) at (sym c.if-eq.ensures) in
    rw parse c.put_template.ensures

-- the line program's answer
pub returns-in-Some : goal.returns-in-Some
unfolding named_text
returns-in-Some c =
    let other : same c.args.name.now (utf8 "parse") ≡ false = rw (c.as_slice.ensures) at (sym c.if-eq.ensures) in
    rw (other, ← c.in-Some.ensures) c.put_line.ensures

-- numbers
pub returns-in-None : goal.returns-in-None
unfolding named_text
returns-in-None c =
    let other : same c.args.name.now (utf8 "parse") ≡ false = rw (c.as_slice.ensures) at (sym c.if-eq.ensures) in
    rw (other, ← c.in-None.ensures, ← c.values_of.ensures) c.put_values.ensures
