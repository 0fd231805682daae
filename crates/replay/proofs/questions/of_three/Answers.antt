-- `replay::questions::of_three` meets its contract: in each case the name is the definition's.
use Rattle.std.proofs.Common.{◌≡◌, to_z-of_z, w32, w64, arith, rules}
use Rattle.std.proofs.lemmas.Slice.Eq.{text_from_reads}
use Rattle.base_notation.specs.Text.{utf8}
use Rattle.replay.specs.Answers.{of_three}
use Rattle.replay.proofs.Casts.{back}
use Rattle.replay.proofs.questions.of_three.Goals as goal

-- the Julian day
pub returns-in-date2j : goal.returns-in-date2j
unfolding of_three
returns-in-date2j c =
    let name : c.args.name.now ≡ utf8 "date2j" = text_from_reads c.args.name.now (utf8 "date2j") (omega arith) (search rules) in
    rw name (simp (c.one.ensures, back w32 c.pg_date2j.ensures c.pg_date2j.type_inv, to_z-of_z c.ranges.y, to_z-of_z c.ranges.m, to_z-of_z c.ranges.d))

-- the ISO week
pub returns-in-date2isoweek : goal.returns-in-date2isoweek
unfolding of_three
returns-in-date2isoweek c =
    let name : c.args.name.now ≡ utf8 "date2isoweek" = text_from_reads c.args.name.now (utf8 "date2isoweek") (omega arith) (search rules) in
    rw name (simp (c.one-in-date2isoweek.ensures, back w32 c.pg_date2isoweek.ensures c.pg_date2isoweek.type_inv, to_z-of_z c.ranges.y, to_z-of_z c.ranges.m, to_z-of_z c.ranges.d))

-- its year
pub returns-in-date2isoyear : goal.returns-in-date2isoyear
unfolding of_three
returns-in-date2isoyear c =
    let name : c.args.name.now ≡ utf8 "date2isoyear" = text_from_reads c.args.name.now (utf8 "date2isoyear") (omega arith) (search rules) in
    rw name (simp (c.one-in-date2isoyear.ensures, back w32 c.pg_date2isoyear.ensures c.pg_date2isoyear.type_inv, to_z-of_z c.ranges.y, to_z-of_z c.ranges.m, to_z-of_z c.ranges.d))

-- the days since 1970
pub returns-in-100 : goal.returns-in-100
unfolding of_three
returns-in-100 c =
    let name : c.args.name.now ≡ utf8 "days_from_civil" = text_from_reads c.args.name.now (utf8 "days_from_civil") (omega arith) (search rules) in
    rw name (simp (back w64 c.days_from_civil.ensures c.days_from_civil.type_inv, to_z-of_z c.ranges.y, to_z-of_z c.ranges.m, to_z-of_z c.ranges.d))
