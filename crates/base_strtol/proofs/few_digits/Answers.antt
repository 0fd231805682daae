-- `base_strtol::few_digits` meets its contract: the value is the number so far, and stays small. Assumes nothing.
use Rattle.std.proofs.Common.{◌≡◌, true, false, sym, refl, ◌∙◌, arith}
use Rattle.base_notation.specs.Text.{byte_at}
use Rattle.base_chars.specs.Class.{is_digit}
use Rattle.base_chars.proofs.Classes.{digit_bounds}
use Rattle.base_strtol.specs.Strtol.{limit}
use Rattle.base_strtol.proofs.Digits.{stopped, ended, more}
use Rattle.base_strtol.proofs.FewDigits.{short_not, short_read}
use Rattle.base_strtol.proofs.few_digits.Goals as goal

-- a byte that is no digit
pub returns-then-not-is_digit_c : goal.returns-then-not-is_digit_c
returns-then-not-is_digit_c c =
    let none = sym c.is_digit_c.ensures ∙ c.if-not-is_digit_c.true in
    c.then_some.ensures
    ∙ short_read _ _ (stopped (limit false) _ _ _ _ _ c.loop-i.invariant.read _ refl (omega arith) none) c.loop-i.invariant.few

-- with this digit the number is too large
pub returns-then-value-gt-EIGHT_DIGITS : goal.returns-then-value-gt-EIGHT_DIGITS
returns-then-value-gt-EIGHT_DIGITS c =
    short_not _ _ c.loop-i.invariant.read (omega arith) (omega arith) (sym c.is_digit_c.ensures ∙ c.if-not-is_digit_c.false)

-- a digit
pub overflow_sub-b : goal.overflow_sub-b
overflow_sub-b c = omega (arith, digit_bounds _ (sym c.is_digit_c.ensures ∙ c.if-not-is_digit_c.false))

pub loop-i-preserved : goal.loop-i-preserved
loop-i-preserved c =
    let s = c.args.s.now in
    let i = c.loop-i.i in
    let digit : is_digit (byte_at s i) ≡ true = sym c.is_digit_c.ensures ∙ c.if-not-is_digit_c.false in
    let in_bounds = digit_bounds (byte_at s i) digit in
    record {
      room = omega arith;
      few = omega (arith, in_bounds, c.from.ensures);
      read = rw c.from.ensures
          (more (limit false) s _ _ _ i c.loop-i.invariant.read (omega arith) digit (omega arith) (omega (arith, in_bounds)));
    }

-- the end of the text
pub returns : goal.returns
returns c =
    let at_end : c.max-end.result ≡ c.loop-i.i = omega (arith, c.loop-i.invariant.room) in
    rw (c.then_some-2.ensures, at_end)
    (short_read _ _ (ended (limit false) _ _ _ _ _ c.loop-i.invariant.read _ refl (omega arith)) c.loop-i.invariant.few)
