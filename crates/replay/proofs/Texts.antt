-- What was read of a line, by its definition.
-- `whole`, `name_end`: a part from 0 on, and where a name ends.
-- `part_is`, `part_fits`: the bytes that were read are the text, and within the buffer. Assumes nothing.
use Rattle.std.proofs.Common.{◌≡◌, ◌∙◌, ap, ℕ, ◌-◌, ◌≤◌, Some, List, length, take, zero-add, arith}
use lib.Seq.{length-sets}
use Rattle.line_buffers.specs.Input.{before, Found}
use Rattle.line_questions.specs.Items.{text_at, ReadBytes}
use Rattle.line_questions.proofs.Texts.{text_front}

pub whole : (n : ℕ) → n - 0 ≡ n
whole n = omega arith

pub name_end : {line : List ℕ} {r : ℕ} → Found line 0 32 r → r ≡ before 32 line
name_end f = f.is ∙ zero-add _

module _ {line before after : List ℕ} {from n : ℕ} (p : ReadBytes line from before after (Some n)) where
  pub part_is : take (n - 0) after ≡ text_at line from
  part_is = rw (whole n) (text_front p).1

  pub part_fits : n ≤ length after
  part_fits =
      let size : length after ≡ length before = ap length p.front ∙ simp length-sets in
      omega (arith, (text_front p).0)
