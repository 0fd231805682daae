-- `write_pieces::words::put_word`: the rest of the word in its case, put from the place of the next letter on, makes
-- what the whole word makes of the buffer lent.
use Rattle.std.proofs.Common.{◌≡◌, ◌+◌}
use lib.ListN.{drop}
use lib.Seq.{sets}
use Rattle.write_pieces.specs.Words.{in_case}
use Rattle.write_pieces.proofs.words.put_word.Given as goal

abbrev pub invariant-loop-i : goal.invariant-loop-i
invariant-loop-i l =
    sets l.out (l.at + l.i) (drop l.i (in_case l.case l.word)) ≡ sets l.fn.out l.at (in_case l.case l.word)
