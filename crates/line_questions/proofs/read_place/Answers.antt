-- `line_questions::read_place`: the next item is what is read.
use Rattle.std.proofs.Common.{◌∙◌, sym, arith}
use borrow.Author.Rules.{rules}
use mir.Facts.{to_z-of_z}
use mir.Syntax.{w64}
use mir.Val.{SFits}
use Rattle.line_questions.specs.Items.{place_of}
use Rattle.line_questions.proofs.Places.{no_place, next_place}
use Rattle.line_questions.proofs.read_place.Goals as goal

-- no item is left
pub returns-then-line-from-clause-place : goal.returns-then-line-from-clause-place
returns-then-line-from-clause-place c = sym (no_place _ _ c.if-line-from.true)

-- no number
pub returns-in_default-clause-place : goal.returns-in_default-clause-place
unfolding place_of
returns-in_default-clause-place c =
    let next = next_place _ _ _ (omega arith) c.find-end.ensures in
    sym (rw (← c.in_default.ensures) at next)

-- a number
pub returns-clause-place : goal.returns-clause-place
returns-clause-place c =
    let next = next_place _ _ _ (omega arith) c.find-end.ensures in
    let fits : SFits w64 c.in-Some.n = search rules in
    simp (to_z-of_z fits) at c.place_of.ensures.place ∙ sym (rw (← c.in-Some.ensures) at next)
