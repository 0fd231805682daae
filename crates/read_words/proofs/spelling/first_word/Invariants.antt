-- `read_words::spelling::first_word`: the first word is the first from the row `index` of the list's table on.
use Rattle.std.proofs.Common.{◌≡◌}
use Rattle.template_patterns.specs.Words.{word_table}
use Rattle.template_patterns.specs.declared.tables.WordList.{WordList}
use Rattle.read_words.specs.FoldOnce.{word_in}
use Rattle.read_words.proofs.Words.{from}
use Rattle.read_words.proofs.spelling.first_word.Given as goal

abbrev pub invariant-loop-index : goal.invariant-loop-index
invariant-loop-index l = (list : WordList) → l.table ≡ word_table list → word_in list l.start ≡ from l.start list l.index
