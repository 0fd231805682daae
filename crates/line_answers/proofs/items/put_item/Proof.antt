-- `line_answers::items::put_item` meets its contract: a space, then the text. Assumes nothing.
use borrow.Author.Rules.{rules}
use Rattle.line_buffers.proofs.Puts.{put_then}
use Rattle.line_answers.proofs.items.put_item.Statement.{statement}
use Rattle.line_answers.proofs.items.put_item.Tie as tie

-- the space and the text
returns : tie.Need-returns
returns c =
    let after_text = c.before.before in
    let after_space = after_text.before.before.before.before in
    put_then _ _ after_space.put_byte-next.ensures after_text.put_bytes.ensures

pub put_item_spec : {M : Type 1} → statement M
put_item_spec = tie.close (tie.spec (λ c κs. search rules) (λ c κs. search rules) (λ c. search rules) returns)
