-- `replay::questions::put_after` meets its contract: the separator is put, and then the number. Assumes nothing.
use borrow.Author.Rules.{rules}
use mir.Facts.{to_z-of_z}
use Rattle.line_buffers.proofs.Puts.{put_then}
use Rattle.replay.proofs.questions.put_after.Statement.{statement}
use Rattle.replay.proofs.questions.put_after.Tie as tie

-- the two as one text
returns : tie.Need-returns
returns c = put_then _ _ c.put_byte-next.ensures (simp (to_z-of_z c.ranges.value) at c.put_decimal.ensures)

pub put_after_spec : {M : Type 1} → statement M
put_after_spec = tie.close (tie.spec (λ c κs. search rules) (λ c κs. search rules) (λ c. search rules) returns)
