-- `line_answers::items::put_number` meets its contract: a space, then the number. Assumes nothing.
use borrow.Author.Rules.{rules}
use mir.Facts.{to_z-of_z}
use Rattle.line_buffers.proofs.Puts.{put_then}
use Rattle.line_answers.proofs.items.put_number.Statement.{statement}
use Rattle.line_answers.proofs.items.put_number.Tie as tie

-- the space and the number
returns : tie.Need-returns
returns c =
    let after_number = c.before.before in
    let after_space = after_number.before.before.before.before in
    let at_start = after_space.before.before.before in
    put_then _ _ after_space.put_byte-next.ensures (rw (to_z-of_z at_start.ranges.value) at after_number.put_decimal.ensures)

pub put_number_spec : {M : Type 1} → statement M
put_number_spec = tie.close (tie.spec (λ c κs. search rules) (λ c κs. search rules) (λ c. search rules) returns)
