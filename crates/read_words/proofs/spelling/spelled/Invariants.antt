-- `read_words::spelling::spelled`: the answer follows from what is left of the word after j bytes.
use Rattle.std.proofs.Common.{◌≡◌}
use Rattle.template_patterns.specs.Search.{length_at}
use Rattle.read_words.specs.FoldOnce.{until_space}
use Rattle.read_words.proofs.Letters.{onward}
use Rattle.read_words.proofs.spelling.spelled.Given as goal

abbrev pub invariant-loop-j : goal.invariant-loop-j
invariant-loop-j l = length_at (until_space l.row) l.start 0 ≡ onward l.row l.start l.j
