-- `base_strtol::pair_number` meets its contract: ten times the first digit and the second are the number. Assumes
-- nothing.
use Rattle.std.proofs.Common.{◌≡◌, ◌+◌, ◌<◌, true, false, length, get_or, sym, refl, ◌∙◌, arith}
use Rattle.std.proofs.lemmas.Grind.{common_steps}
use Rattle.base_notation.specs.Text.{byte_at}
use Rattle.base_chars.specs.Class.{is_digit}
use Rattle.base_chars.proofs.Classes.{digit_bounds}
use Rattle.base_strtol.proofs.FewDigits.{pair_found}
use Rattle.base_strtol.proofs.pair_number.Goals as goal

pub overflow_sub-tens : goal.overflow_sub-tens
overflow_sub-tens c = omega (arith, digit_bounds _ (sym c.is_digit_c.ensures ∙ c.if-is_digit_c.true))

pub overflow_sub-ones : goal.overflow_sub-ones
overflow_sub-ones c =
    omega (arith, digit_bounds _ (sym c.is_digit_c-then-is_digit_c.ensures ∙ c.if-is_digit_c-2.true))

pub returns-then-not-is_digit_c : goal.returns-then-not-is_digit_c
returns-then-not-is_digit_c c =
    let s = c.args.s.now in
    let at = c.args.at in
    let left = c.in_ok-get.field-0.now in
    let room : at + 1 + 1 < length s = grind (arith, common_steps) in
    let tens : get_or left 0 0 ≡ byte_at s at = grind (arith, common_steps) in
    let ones : get_or left 1 0 ≡ byte_at s (at + 1) = grind (arith, common_steps) in
    let next : get_or left 2 0 ≡ byte_at s (at + 1 + 1) = grind (arith, common_steps) in
    let first : is_digit (byte_at s at) ≡ true = rw tens at (sym c.is_digit_c.ensures ∙ c.if-is_digit_c.true) in
    let second : is_digit (byte_at s (at + 1)) ≡ true =
    rw ones at (sym c.is_digit_c-then-is_digit_c.ensures ∙ c.if-is_digit_c-2.true)
    in
    let stops : is_digit (byte_at s (at + 1 + 1)) ≡ false =
    rw next at (sym c.is_digit_c-then-is_digit_c-2.ensures ∙ c.if-not-is_digit_c.true)
    in
    pair_found s at _ _ (room, first, second, stops)
    (rw (c.from.ensures, c.from-then-not-is_digit_c.ensures, tens, ones)) refl
