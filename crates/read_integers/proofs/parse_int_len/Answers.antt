-- `read_integers::parse_int_len`: of a few digits strtol reads the same number, which has 32 bits.
use Rattle.std.proofs.Common.{◌≡◌, ◌∙◌, ◌<◌, ◌^◌, sym, refl, ap, arith}
use borrow.Author.Tests.{lt-ltb}
use mir.Facts.{to_z_pos}
use mir.Syntax.{w32}
use Rattle.base_strtol.proofs.FewDigits.{short_from, short_small, short_strtol}
use Rattle.read_integers.specs.Number.{checked}
use Rattle.read_integers.proofs.Numbers.{accepted, found_free}
use Rattle.read_integers.proofs.parse_int_len.Goals as goal

-- the short way gives nine digits at most
pub overflow_cast-result : goal.overflow_cast-result
overflow_cast-result c =
    let small = short_small _ _ c.in-Some.short (sym c.short_number.ensures ∙ c.in-Some.is) in
    omega (arith, small)

-- where it finds some, strtol finds the same
pub returns : goal.returns
returns c =
    let few = c.in-Some.short in
    let found = sym c.short_number.ensures ∙ c.in-Some.is in
    let small : few.value < 1000000000 = short_small _ _ few found in
    let onward : few.end ≡ c.args.at → ⊥ = λ e. omega (arith, e, short_from _ _ few found) in
    found_free _ _ _ _ c.requires _ _ c.if-free.true
    (simp (to_z_pos w32 {n = few.value} (omega arith))
    (accepted _ _ _ onward refl (lt-ltb few.value (2 ^ 31) (omega arith)) ∙ ap (checked _ _) (sym (short_strtol _ _ few found))))
