-- `replay::questions::of_two` meets its contract: the name is the definition's.
use Rattle.std.proofs.Common.{◌≡◌, to_z-of_z, w32, arith, rules}
use Rattle.std.proofs.lemmas.Slice.Eq.{text_from_reads}
use Rattle.base_notation.specs.Text.{utf8}
use Rattle.replay.specs.Answers.{of_two}
use Rattle.replay.proofs.Casts.{back}
use Rattle.replay.proofs.questions.of_two.Goals as goal

-- the first day of the week
pub returns-in-isoweek2j : goal.returns-in-isoweek2j
unfolding of_two
returns-in-isoweek2j c =
    let name : c.args.name.now ≡ utf8 "isoweek2j" = text_from_reads c.args.name.now (utf8 "isoweek2j") (omega arith) (search rules) in
    rw name (simp (c.one.ensures, back w32 c.pg_isoweek2j.ensures c.pg_isoweek2j.type_inv, to_z-of_z c.ranges.year, to_z-of_z c.ranges.week))
