-- `line_answers::moments::put_text` meets its contract: 0, then the text as an item. Assumes nothing.
use native.Mathlib.Omega.{arith}
use borrow.Author.Rules.{rules}
use Rattle.line_buffers.proofs.Puts.{put_then}
use Rattle.line_answers.proofs.moments.put_text.Statement.{statement}
use Rattle.line_answers.proofs.moments.put_text.Tie as tie

-- 0 and the text
returns : tie.Need-returns
returns c =
    let after_item = c.before.before in
    let after_accepted = after_item.before.before.before.before in
    record {
      put = put_then _ _ after_accepted.put_accepted-next.ensures after_item.put_item.ensures;
      short = omega (arith, after_accepted.requires);
    }

pub put_text_spec : {M : Type 1} → statement M
put_text_spec = tie.close (tie.spec (λ c κs. search rules) (λ c κs. search rules) (λ c. search rules) returns)
