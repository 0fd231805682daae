-- `read_words::spelling::folded_beginning`: the first j bytes are folded, and 0s follow.
use Rattle.std.proofs.Common.{◌≡◌}
use Rattle.read_words.specs.FoldOnce.{beginning, in_nine}
use Rattle.read_words.proofs.spelling.folded_beginning.Given as goal

abbrev pub invariant-loop-j : goal.invariant-loop-j
invariant-loop-j l = l.start ≡ in_nine (beginning l.j l.s l.at)
