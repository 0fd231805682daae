-- `line_questions::read_numbers`: an item that is no number, a fourth one, one number more, and the end of the line.
use Rattle.std.proofs.Common.{◌∙◌, sym, arith}
use mir.Facts.{to_z-of_z}
use mir.Syntax.{w32}
use mir.Val.{SFits}
use borrow.Author.Rules.{rules}
use Rattle.line_questions.proofs.Counts.{ended, no_number, too_many, more}
use Rattle.line_questions.proofs.Parts.{next_item, no_items}
use Rattle.line_questions.proofs.read_numbers.Goals as goal

pub returns-in_default : goal.returns-in_default
returns-in_default c =
    let items = next_item _ _ _ (omega arith) c.find-end.ensures in
    c.no_numbers.ensures ∙ no_number c.loop-at.invariant.1 _ c.find-end.result items (sym c.in_default.ensures)

pub returns-then-full : goal.returns-then-full
returns-then-full c =
    let items = next_item _ _ _ (omega arith) c.find-end.ensures in
    c.no_numbers-then-full.ensures ∙ too_many c.loop-at.invariant.1 _ c.find-end.result items (omega arith)

pub loop-at-preserved : goal.loop-at-preserved
loop-at-preserved c =
    let items = next_item _ _ _ (omega arith) c.find-end.ensures in
    let fits : SFits w32 c.in-Some.n = search rules in
    (omega arith, rw (to_z-of_z fits) (more c.loop-at.invariant.1 _ _ items _ (sym c.in-Some.ensures) (omega arith)))

pub returns : goal.returns
returns c = ended c.loop-at.invariant.1 (no_items _ _ c.loop-at-test.false)
