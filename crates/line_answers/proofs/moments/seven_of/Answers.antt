-- `line_answers::moments::seven_of`: where the items are not seven numbers there are only zeros, else they are stored.
use Rattle.std.proofs.Common.{sym, arith, rules}
use mir.Facts.{to_z-of_z}
use mir.Syntax.{w32}
use mir.Val.{SFits}
use Rattle.line_answers.proofs.Sevens.{more, too_few, too_many, no_number, ended}
use Rattle.line_answers.proofs.moments.seven_of.Goals as goal

-- the items end before the seventh
pub returns-then-s-at : goal.returns-then-s-at
returns-then-s-at c = sym (too_few _ _ _ _ c.loop-value.invariant (omega arith) c.if-s-at.true)

-- an item is no number
pub returns-in_default : goal.returns-in_default
returns-in_default c =
    sym (no_number _ _ _ _ c.loop-value.invariant _ (omega arith) c.if-s-at.false c.find-end.ensures.is (sym c.in_default.ensures))

pub loop-value-preserved : goal.loop-value-preserved
loop-value-preserved c =
    let fits : SFits w32 c.in-Some.n = search rules in
    rw (to_z-of_z fits) (more _ _ _ _ c.loop-value.invariant _ (omega arith) c.if-s-at.false c.find-end.ensures.is _ (sym c.in-Some.ensures))

-- an item is left after the seventh
pub returns-then-at-s : goal.returns-then-at-s
returns-then-at-s c = sym (too_many _ _ _ _ c.loop-value.invariant (omega arith) c.if-at-s.true)

-- seven numbers
pub returns : goal.returns
returns c = sym (ended _ _ _ _ c.loop-value.invariant (omega arith) c.if-at-s.false)
