-- `read_integers::fixed`: the spaces end within the input, and the bytes after them that fill the width are those that
-- the definition reads.
use Rattle.std.proofs.Common.{◌≡◌, ◌∙◌, ◌&&◌, arith, false}
use borrow.Author.Tests.{le-ltb}
use mathlib.Core.Bool.{and-false}
use lib.Dec.{ltb}
use mir.Facts.{to_z-of_z}
use mir.Syntax.{w64}
use mir.Val.{SFits}
use borrow.Author.Rules.{rules}
use Rattle.base_chars.specs.Class.{is_space}
use Rattle.base_strtol.proofs.Leading.{leading_place}
use Rattle.read_integers.proofs.Numbers.{short, narrow, whole, part_end}
use Rattle.read_integers.proofs.fixed.Goals as goal
use Rattle.read_integers.proofs.fixed.Goals.{else-parsed-gt0-via-then-parsed-gt0+else-parsed-wide, else-parsed-gt0-via-else-parsed-gt0}

pub overflow_sub-left : goal.overflow_sub-left
overflow_sub-left c = omega (arith, leading_place is_space c.args.s.now c.args.at, c.past_spaces-from.ensures)

pub returns-then-left-wide : goal.returns-then-left-wide
returns-then-left-wide c = short _ _ _ _ _ c.past_spaces-from.ensures c.if-left-wide.true

pub slice_bounds-c_strtol-end : goal.slice_bounds-c_strtol-end
slice_bounds-c_strtol-end c = omega (arith, leading_place is_space c.args.s.now c.args.at, c.past_spaces-from.ensures)

pub returns-then-parsed-wide : goal.returns-then-parsed-wide
returns-then-parsed-wide c =
    narrow _ _ _ _ _ c.past_spaces-from.ensures c.if-left-wide.false _ c.c_strtol-r.ensures c.if-parsed-gt0.true c.if-parsed-wide.true

pub overflow_add-found : goal.overflow_add-found
overflow_add-found c =
    omega (arith, leading_place is_space c.args.s.now c.args.at, c.past_spaces-from.ensures, part_end _ _ 0 _ _ c.past_spaces-from.ensures c.if-left-wide.false _ c.c_strtol-r.ensures)

-- no digit or all of them: the checks that are left
pub returns : goal.returns
returns c =
    let fills : (ltb 0 c.c_strtol-r.result.end && ltb c.c_strtol-r.result.end c.args.width) ≡ false
    = elim c.else-parsed-gt0.branch [
      | else-parsed-gt0-via-then-parsed-gt0+else-parsed-wide w ↦ rw (le-ltb _ _ w.if-parsed-wide.false, and-false)
      | else-parsed-gt0-via-else-parsed-gt0 w ↦ rw (le-ltb _ _ w.if-parsed-gt0.false)
    ] in
    let fits : SFits w64 c.c_strtol-r.result.value = search rules in
    simp (to_z-of_z fits) at c.checked.ensures
    ∙ whole _ _ _ _ _ c.past_spaces-from.ensures c.if-left-wide.false _ c.c_strtol-r.ensures fills
