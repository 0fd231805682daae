-- `dates::answer_text`: the buffer keeps its length. Each turn but the last passes a line.
use Rattle.std.proofs.Common.{◌≡◌, ◌-◌, length}
use Rattle.dates.proofs.answer_text.Given as goal

abbrev pub invariant-loop-s : goal.invariant-loop-s
invariant-loop-s g l = length l.out ≡ length l.fn.out

abbrev pub decreases-loop-s : goal.decreases-loop-s
decreases-loop-s g l = length l.text - l.s.from
