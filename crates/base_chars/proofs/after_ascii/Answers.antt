-- `base_chars::after_ascii` meets its contract: it passes nothing but ASCII. Assumes nothing.
use Rattle.std.proofs.Common.{List, ℕ, ◌≡◌, ◌-◌, length, take, drop, ap, sym, ◌∙◌, arith, length-drop}
use Rattle.std.proofs.Math.Seq.{take_all}
use lib.Count.{trailing_of_zero}
use Rattle.base_chars.specs.Utf8.{high_bits}
use Rattle.base_chars.proofs.HighBits.{word_passed, onward}
use Rattle.base_chars.proofs.after_ascii.Goals as goal

-- what is left of the text, as the code takes it
rest : (s : List ℕ) (i : ℕ) → take (length s - i) (drop i s) ≡ drop i s
rest s i = take_all _ _ (omega (arith, length-drop i s))

-- the bytes below the lowest high bit
pub returns-then-high-ne0 : goal.returns-then-high-ne0
returns-then-high-ne0 c =
    let s = c.args.s.now in
    let i = c.loop-bytes.i in
    let eight = c.high_bits-high.ensures ∙ ap high_bits (c.in-Some.ensures.cases.same ∙ ap (take 8) (rest s i)) in
    onward c.loop-bytes.invariant.1 (word_passed s i _ _ eight c.zero_bytes.ensures.0)

-- eight bytes of ASCII
pub loop-bytes-preserved : goal.loop-bytes-preserved
loop-bytes-preserved c =
    let s = c.args.s.now in
    let i = c.loop-bytes.i in
    let eight = c.high_bits-high.ensures ∙ ap high_bits (c.in-Some.ensures.cases.same ∙ ap (take 8) (rest s i)) in (
      omega (arith, c.in-Some.ensures.cases.enough, ap length (rest s i), length-drop i s),
      onward c.loop-bytes.invariant.1 (word_passed s i 0 8 (sym c.if-high-ne0.false ∙ eight) (rw trailing_of_zero)),
    )
