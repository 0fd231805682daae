-- `line_questions::read_bytes`: the item is all that follows the separator.
use Rattle.std.proofs.Common.{◌∙◌, sym, arith}
use Rattle.std.proofs.lemmas.Slice.Eq.{bytes_eq-Decides}
use Rattle.line_questions.proofs.Texts.{no_item, no_bytes, no_text, whole_text}
use Rattle.line_questions.proofs.read_bytes.Goals as goal
use Rattle.line_questions.proofs.read_bytes.Goals.{then-item-eq1-via-then-item-eq1, then-item-eq1-via-else-item-eq1+then-count-item}

-- no item
pub returns-then-line-from : goal.returns-then-line-from
returns-then-line-from c = no_item _ _ _ c.if-line-from.true

-- `-`
pub returns-then-eq : goal.returns-then-eq
returns-then-eq c =
    let e = (bytes_eq-Decides _ _).0 (sym c.if-eq.ensures) ∙ c.as_slice.ensures in
    no_bytes _ _ _ _ _ (omega arith) c.put_hex-count.ensures e

-- half a byte, an item that is not hexadecimal, or bytes that do not fit
pub returns-then-item-eq1 : goal.returns-then-item-eq1
returns-then-item-eq1 c =
    let within = c.if-line-from.false in
    let put = c.put_hex-count.ensures in
    elim c.then-item-eq1.branch [
      | then-item-eq1-via-then-item-eq1 w ↦ no_text _ _ _ _ _ within put c.as_slice.ensures c.if-eq.ensures (λ e. omega arith)
      | then-item-eq1-via-else-item-eq1+then-count-item w ↦ no_text _ _ _ _ _ within put c.as_slice.ensures c.if-eq.ensures (λ e. omega arith)
    ]

-- a text
pub returns : goal.returns
returns c = whole_text _ _ _ _ _ c.if-line-from.false c.put_hex-count.ensures c.as_slice.ensures c.if-eq.ensures (omega arith)
