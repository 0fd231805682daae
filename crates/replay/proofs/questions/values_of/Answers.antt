-- `replay::questions::values_of` meets its contract: in each case the name is the definition's.
use Rattle.std.proofs.Common.{◌≡◌, arith, rules}
use Rattle.std.proofs.lemmas.Slice.Eq.{text_from_reads}
use Rattle.base_notation.specs.Text.{utf8}
use Rattle.replay.specs.Answers.{values_of}
use Rattle.replay.proofs.questions.values_of.Goals as goal

-- the number at a place
pub returns-in-strtol : goal.returns-in-strtol
unfolding values_of
returns-in-strtol c =
    let name : c.args.name.now ≡ utf8 "strtol" = text_from_reads c.args.name.now (utf8 "strtol") (omega arith) (search rules) in
    rw name c.of_strtol.ensures

-- the length of a character
pub returns-in-mblen : goal.returns-in-mblen
unfolding values_of
returns-in-mblen c =
    let name : c.args.name.now ≡ utf8 "mblen" = text_from_reads c.args.name.now (utf8 "mblen") (omega arith) (search rules) in
    rw name c.of_mblen.ensures
