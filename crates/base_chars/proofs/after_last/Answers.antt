-- `base_chars::after_last` meets its contract: the last eight bytes are tested together. Assumes nothing.
use Rattle.std.proofs.Common.{◌≡◌, ◌-◌, ◌*◌, ◌/◌, ◌^◌, ◌≤◌, length, take, drop, ap, sym, ◌∙◌, arith, length-drop}
use Rattle.std.proofs.Math.Seq.{take_all}
use Rattle.base_chars.specs.Utf8.{high_bits}
use Rattle.base_chars.proofs.HighBits.{last_high, word_passed}
use Rattle.base_chars.proofs.after_last.Goals as goal

pub returns : goal.returns
returns c =
    let s = c.args.s.now in
    let at = c.args.at in
    let enough : 8 ≤ length s = c.in-Some.ensures.cases.0 in
    let whole : take 8 (drop (length s - 8) s) ≡ drop (length s - 8) s = take_all 8 _ (omega (arith, length-drop (length s - 8) s)) in
    let same : c.high_bits.result ≡ high_bits (take 8 (drop (length s - 8) s)) =
    c.high_bits.ensures ∙ ap high_bits (c.in-Some.ensures.cases.1.same ∙ sym whole)
    in
    let high : c.high_bits.result / 2 ^ (64 - 8 * (length s - at)) ≡ high_bits (take 8 (drop at s)) =
    rw same (last_high s at enough (omega arith) (omega arith))
    in
    word_passed s at _ _ high c.zero_bytes.ensures.0
