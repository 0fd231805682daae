-- `base_chars::sequence_of` meets its contract: it tests the bytes of a row after the first in order. Assumes nothing.
use Rattle.std.proofs.Common.{[], ◌∷◌, ◌≡◌, ◌+◌, ◌-◌, true, false, drop, sym, ◌∙◌, arith}
use Rattle.base_chars.specs.Range.{◌‥◌}
use Rattle.base_chars.specs.Utf8.{begins}
use Rattle.base_chars.proofs.Continued.{continued, begun, first_on, one_more, one_less}
use Rattle.base_chars.proofs.sequence_of.Goals as goal

-- a byte is no continuation
pub returns-then-not-in_range-2 : goal.returns-then-not-in_range-2
returns-then-not-in_range-2 g c =
    let s = c.args.s.now in
    let at = c.args.at in
    let k = c.loop-k.k in
    let second : begins (c.args.lo ‥ c.args.hi ∷ []) (drop (at + 1) s) ≡ true = sym c.in_range.ensures ∙ c.if-not-in_range.false in
    let none : begins (continued 1) (drop (at + k) s) ≡ false = sym c.in_range-in-loop-k.ensures ∙ c.if-not-in_range-2.true in
    rw (first_on, second, c.loop-k.invariant.same, one_less s at k g.row.N (omega arith) none)

-- a byte is one
pub loop-k-preserved : goal.loop-k-preserved
loop-k-preserved g c =
    let s = c.args.s.now in
    let at = c.args.at in
    let k = c.loop-k.k in
    let one : begins (continued 1) (drop (at + k) s) ≡ true = sym c.in_range-in-loop-k.ensures ∙ c.if-not-in_range-2.false in
    record {
      room = omega (arith, begun (0x80 ‥ 0xbf) s (at + k) one);
      same = c.loop-k.invariant.same ∙ one_more s at k g.row.N (omega arith) one;
    }

-- all of them are
pub returns : goal.returns
returns g c =
    let s = c.args.s.now in
    let at = c.args.at in
    let second : begins (c.args.lo ‥ c.args.hi ∷ []) (drop (at + 1) s) ≡ true = sym c.in_range.ensures ∙ c.if-not-in_range.false in
    let no_more : g.row.N - c.loop-k.k ≡ 0 = omega arith in
    rw (first_on, second, c.loop-k.invariant.same, no_more)
