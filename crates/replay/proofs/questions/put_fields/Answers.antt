-- `replay::questions::put_fields` meets its contract: each field is put after the one before.
use Rattle.line_buffers.proofs.Puts.{put_then}
use Rattle.replay.proofs.questions.put_fields.Goals as goal

-- the four as one text
pub returns : goal.returns
returns c =
    let start = rw c.from.ensures at c.put_field-start.ensures in
    let pattern = rw c.from-2.ensures at c.put_field-pattern.ensures in
    let suffix = rw c.from-3.ensures at c.put_field.ensures in
    put_then _ _ (put_then _ _ (put_then _ _ start c.put_field-len.ensures) pattern) suffix
