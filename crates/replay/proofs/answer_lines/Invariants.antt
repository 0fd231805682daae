-- `replay::answer_lines`: the next line begins at or before the newline that was found, and the answers are within the
-- buffer. Each turn passes a newline.
use Rattle.std.proofs.Common.{◌-◌, ◌≤◌, length}
use Rattle.replay.proofs.answer_lines.Given as goal

abbrev pub invariant-loop-end : goal.invariant-loop-end
invariant-loop-end g l = (l.s.from ≤ l.end) × (l.end ≤ length l.text) × (l.s.at ≤ length l.out)

abbrev pub decreases-loop-end : goal.decreases-loop-end
decreases-loop-end g l = length l.text - l.end
