-- `base_chars::after_bytes` meets its contract: a byte of ASCII is passed. Assumes nothing.
use Rattle.std.proofs.Common.{◌<◌, sym, ◌∙◌, arith, rules, lit<, ltb-true}
use Rattle.base_notation.specs.Text.{byte_at}
use Rattle.base_chars.proofs.Sequences.{at_row}
use Rattle.base_chars.proofs.WellFormed.{past_sequence_at}
use Rattle.base_chars.proofs.after_bytes.Goals as goal

pub loop-i-preserved : goal.loop-i-preserved
loop-i-preserved c =
    let s = c.args.s.now in
    let i = c.loop-i.i in
    let small : byte_at s i < 128 = ltb-true _ _ (sym c.is_ascii.ensures ∙ c.if-not-is_ascii.false) in
    let one_byte = at_row s i (search rules) 0 (lit< tt) (omega arith) (omega arith) in
    record { forward = omega arith; same = past_sequence_at s i 1 one_byte ∙ c.loop-i.invariant.same }
