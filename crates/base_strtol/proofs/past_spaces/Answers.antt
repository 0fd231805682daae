-- `base_strtol::past_spaces` meets its contract: a space is passed, and at anything else the spaces end. Assumes
-- nothing.
use Rattle.std.proofs.Common.{sym, ◌∙◌, arith}
use Rattle.base_chars.specs.Class.{is_space}
use Rattle.base_strtol.proofs.Leading.{leading_on, leading_stop, leading_end}
use Rattle.base_strtol.proofs.past_spaces.Goals as goal

-- no space
pub returns-then-not-is_space_c : goal.returns-then-not-is_space_c
returns-then-not-is_space_c c =
    let none = sym c.is_space_c.ensures ∙ c.if-not-is_space_c.true in
    omega (arith, c.loop-i.invariant.same, leading_stop is_space c.args.s.now c.loop-i.i (omega arith) none)

-- a space
pub loop-i-preserved : goal.loop-i-preserved
loop-i-preserved c =
    let one = sym c.is_space_c.ensures ∙ c.if-not-is_space_c.false in
    record {
      room = omega arith;
      same = omega (arith, c.loop-i.invariant.same, leading_on is_space c.args.s.now c.loop-i.i (omega arith) one);
    }

-- the end of the text
pub returns : goal.returns
returns c = omega (arith, c.loop-i.invariant.same, c.loop-i.invariant.room, leading_end is_space c.args.s.now c.loop-i.i (omega arith))
