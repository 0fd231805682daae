-- `line_answers::moments::seven_of` keeps that the numbers stored, then those of the items that are left, are those of
-- the text.
use Rattle.line_answers.proofs.Sevens.{Read}
use Rattle.line_answers.proofs.moments.seven_of.Given as goal

abbrev pub invariant-loop-value : goal.invariant-loop-value
invariant-loop-value l = Read l.s l.value-items l.at l.value-index
