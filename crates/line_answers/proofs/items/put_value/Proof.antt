-- `line_answers::items::put_value` meets its contract: 0, then the number. Assumes nothing.
use borrow.Author.Rules.{rules}
use mir.Facts.{to_z-of_z}
use Rattle.line_buffers.proofs.Puts.{put_then}
use Rattle.line_answers.proofs.Lengths.{value_short}
use Rattle.line_answers.proofs.items.put_value.Statement.{statement}
use Rattle.line_answers.proofs.items.put_value.Tie as tie

-- 0 and the number
returns : tie.Need-returns
returns c =
    let after_number = c.before.before in
    let after_accepted = after_number.before.before.before.before in
    let fits = after_accepted.ranges.value in
    record {
      put = put_then _ _ after_accepted.put_accepted-next.ensures (rw (to_z-of_z fits) at after_number.put_number.ensures);
      short = value_short _ fits;
    }

pub put_value_spec : {M : Type 1} → statement M
put_value_spec = tie.close (tie.spec (λ c κs. search rules) (λ c κs. search rules) (λ c. search rules) returns)
