-- `replay::questions::mode_of` meets its contract: in each case the name is the definition's.
use Rattle.std.proofs.Common.{◌≡◌, arith, rules}
use Rattle.std.proofs.lemmas.Slice.Eq.{text_from_reads}
use Rattle.base_notation.specs.Text.{utf8}
use Rattle.replay.specs.Answers.{mode_of}
use Rattle.replay.proofs.questions.mode_of.Goals as goal

-- a day
pub returns-in-100 : goal.returns-in-100
unfolding mode_of
returns-in-100 c =
    let name : c.args.name.now ≡ utf8 "date_line" = text_from_reads c.args.name.now (utf8 "date_line") (omega arith) (search rules) in
    rw name

-- parts
pub returns-in-112 : goal.returns-in-112
unfolding mode_of
returns-in-112 c =
    let name : c.args.name.now ≡ utf8 "parts_line" = text_from_reads c.args.name.now (utf8 "parts_line") (omega arith) (search rules) in
    rw name

-- a text
pub returns-in-119 : goal.returns-in-119
unfolding mode_of
returns-in-119 c =
    let name : c.args.name.now ≡ utf8 "write_line" = text_from_reads c.args.name.now (utf8 "write_line") (omega arith) (search rules) in
    rw name

-- an instant
pub returns-in-105 : goal.returns-in-105
unfolding mode_of
returns-in-105 c =
    let name : c.args.name.now ≡ utf8 "instant_line" = text_from_reads c.args.name.now (utf8 "instant_line") (omega arith) (search rules) in
    rw name
