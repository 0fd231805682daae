-- `write_pieces::words::put_word`: each turn puts the next letter of the word in its case.
use Rattle.std.proofs.Common.{arith, ◌∙◌}
use Rattle.write_pieces.proofs.Cased.{next_letter}
use Rattle.write_pieces.proofs.words.put_word.Goals as goal

pub loop-i-preserved : goal.loop-i-preserved
loop-i-preserved c =
    next_letter c.args.case c.loop-i.out c.args.at c.args.word.now c.loop-i.i (omega arith) _ c.letter_in.ensures ∙ c.loop-i.invariant
