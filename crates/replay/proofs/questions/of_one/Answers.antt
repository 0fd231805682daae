-- `replay::questions::of_one` meets its contract: in each case the name is the definition's.
use Rattle.std.proofs.Common.{◌≡◌, to_z-of_z, w32, arith, rules}
use Rattle.std.proofs.lemmas.Slice.Eq.{text_from_reads}
use Rattle.base_notation.specs.Text.{utf8}
use Rattle.replay.specs.Answers.{of_one}
use Rattle.replay.proofs.Casts.{back}
use Rattle.replay.proofs.questions.of_one.Goals as goal

-- the date of a day
pub returns-in-j2date : goal.returns-in-j2date
unfolding of_one
returns-in-j2date c =
    let name : c.args.name.now ≡ utf8 "j2date" = text_from_reads c.args.name.now (utf8 "j2date") (omega arith) (search rules) in
    rw name (simp (c.of_date.ensures, c.pg_j2date.ensures, to_z-of_z c.ranges.n))

-- its weekday
pub returns-in-j2day : goal.returns-in-j2day
unfolding of_one
returns-in-j2day c =
    let name : c.args.name.now ≡ utf8 "j2day" = text_from_reads c.args.name.now (utf8 "j2day") (omega arith) (search rules) in
    rw name (simp (c.one.ensures, back w32 c.pg_j2day.ensures c.pg_j2day.type_inv, to_z-of_z c.ranges.n))

-- a leap year
pub returns-in-105 : goal.returns-in-105
unfolding of_one
returns-in-105 c =
    let name : c.args.name.now ≡ utf8 "is_leap" = text_from_reads c.args.name.now (utf8 "is_leap") (omega arith) (search rules) in
    rw name (simp (c.flag_of.ensures, c.pg_is_leap.ensures, to_z-of_z c.ranges.n))
