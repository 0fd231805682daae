-- `line_questions::read_numbers` keeps that the numbers read, then those of the items that are left, are the line's.
use Rattle.std.proofs.Common.{◌-◌, ◌≤◌, length}
use Rattle.line_questions.proofs.Counts.{Read}
use Rattle.line_questions.proofs.read_numbers.Given as goal

abbrev pub invariant-loop-at : goal.invariant-loop-at
invariant-loop-at l = (l.count ≤ 3) × Read l.line l.from l.values l.count l.at

abbrev pub decreases-loop-at : goal.decreases-loop-at
decreases-loop-at l = length l.line - l.at
