-- `line_numbers::put_hex`: at a pair that is none, and where no pair is left, all bytes are put.
use Rattle.std.proofs.Common.{◌∙◌, ap, arith}
use Rattle.std.specs.Slice.Iter.{chunks_exact_rest, chunks_exact_size}
use Rattle.line_numbers.specs.Numbers.{bytes_of}
use Rattle.line_numbers.proofs.Hex.{begun, more, ended, no_high, no_low, no_pair}
use Rattle.line_numbers.proofs.put_hex.Goals as goal

pub loop-pair-init : goal.loop-pair-init
loop-pair-init c =
    let same = c.into_iter-pair-iterator.ensures.into_iter_gives in
    let made = c.chunks_exact-pair-items.ensures in
    (ap chunks_exact_size same ∙ made.size, rw (ap chunks_exact_rest same ∙ made.rest) (begun _ _ _))

-- the first byte of a pair is no digit
pub returns-in_default : goal.returns-in_default
returns-in_default c =
    let i = c.loop-pair.invariant in
    let parts = c.in-Some.ensures.steps.1 in
    ended i.1 (ap bytes_of parts.0 ∙ no_high _ _ (parts.1 ∙ i.0) c.in_default.ensures.value)

-- the second is none
pub returns-in_default-hex_digit : goal.returns-in_default-hex_digit
returns-in_default-hex_digit c =
    let i = c.loop-pair.invariant in
    let parts = c.in-Some.ensures.steps.1 in
    ended i.1 (ap bytes_of parts.0 ∙ no_low _ _ (parts.1 ∙ i.0) _ c.in-Some-hex_digit.ensures.value c.in_default-hex_digit.ensures.value)

pub loop-pair-preserved : goal.loop-pair-preserved
loop-pair-preserved c =
    let i = c.loop-pair.invariant in
    let steps = c.in-Some.ensures.steps in
    let high = c.in-Some-hex_digit.ensures.value in
    let low = c.in-Some-hex_digit-2.ensures.value in
    (steps.0 ∙ i.0, more i.1 _ _ _ _ steps.1.0 (steps.1.1 ∙ i.0) high low c.put_byte-next.ensures)

-- no pair is left
pub returns : goal.returns
returns c =
    let i = c.loop-pair.invariant in
    let short = c.in-None.ensures.steps.1.0 in
    ended i.1 (no_pair _ (omega arith))
