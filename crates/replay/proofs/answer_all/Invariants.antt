-- `replay::answer_all`: what is kept and the answers are within their buffers. Each turn leaves fewer reads.
use Rattle.std.proofs.Common.{◌≤◌, MatchOption, length}
use Rattle.std.specs.Bool.{⊤}
use Rattle.replay.proofs.answer_all.Given as goal

abbrev pub invariant-loop-s : goal.invariant-loop-s
invariant-loop-s g l = MatchOption l.s.kept ⊤ (λ n. n ≤ length l.input) × (l.s.at ≤ length l.out)

abbrev pub decreases-loop-s : goal.decreases-loop-s
decreases-loop-s g l = l.s.reads
