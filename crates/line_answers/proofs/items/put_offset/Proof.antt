-- `line_answers::items::put_offset` meets its contract: in each case that case's item is put. Assumes nothing.
use native.Mathlib.Omega.{arith}
use borrow.Author.Rules.{rules}
use mir.Facts.{to_z-of_z}
use mir.Syntax.{w32}
use mir.Val.{SFits}
use Rattle.line_answers.proofs.Lengths.{int_length}
use Rattle.line_answers.proofs.items.put_offset.Statement.{statement}
use Rattle.line_answers.proofs.items.put_offset.Tie as tie

-- none
returns : tie.Need-returns-in-None
returns c =
    let after_item = c.before.before in
    let at_absent = after_item.before.before.before in
    rw at_absent.in-None.is (after_item.put_item.ensures, omega arith)

-- its seconds
returns-2 : tie.Need-returns-in-Some
returns-2 c =
    let after_int = c.before.before in
    let at_east = after_int.before.before in
    let fits : SFits w32 at_east.in-Some.seconds = search rules in
    rw at_east.in-Some.is (rw (to_z-of_z fits) at after_int.put_int.ensures, int_length _ fits)

pub put_offset_spec : {M : Type 1} → statement M
put_offset_spec =
    tie.close
    (tie.spec
    (λ c. search rules)
    (λ c κs. search rules)
    (λ c. search rules)
    (λ c κs. search rules)
    (λ c. search rules)
    returns
    (λ c. search rules)
    returns-2)
