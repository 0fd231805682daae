-- `read_words::spelling::seq_search_ascii`: the table that is searched is the list's, and the folded beginning has the
-- word that the input has.
use Rattle.read_words.proofs.Words.{laid, searched}
use Rattle.read_words.proofs.spelling.seq_search_ascii.Goals as goal

pub first_word-requires : goal.first_word-requires
first_word-requires c = rw c.words-table.ensures (laid c.args.list).long

pub returns : goal.returns
returns c =
    searched _ _ _ _ _ _ c.longest.ensures c.folded_beginning-start.ensures (c.first_word.ensures _ c.words-table.ensures)
