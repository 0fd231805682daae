-- `read_input::lane::number_taken`: each test is one that the law of plain numbers asks for.
use Rattle.std.proofs.Common.{◌≡◌, ◌∙◌, ◌<◌, arith, pos, sym}
use mir.Facts.{to_z_pos}
use mir.Syntax.{w32}
use mir.Val.{to_z}
use Rattle.base_strtol.proofs.FewDigits.{short_from, short_small}
use Rattle.read_input.proofs.Plainly.{is_taken}
use Rattle.read_input.proofs.lane.number_taken.Goals as goal

-- the digits end after the place, and their number is small
pub overflow_sub-count : goal.overflow_sub-count
overflow_sub-count c =
    let onward = short_from _ _ c.in_ok-value.field-0 (sym c.short_number.ensures ∙ c.in_ok-value.was) in
    omega (arith, onward)

pub overflow_cast-value : goal.overflow_cast-value
overflow_cast-value c =
    let small = short_small _ _ c.in_ok-value.field-0 (sym c.short_number.ensures ∙ c.in_ok-value.was) in
    omega (arith, small)

-- read
pub returns : goal.returns
returns c =
    let few = c.in_ok-value.field-0 in
    let found = sym c.short_number.ensures ∙ c.in_ok-value.was in
    let small : few.value < 1000000000 = short_small _ _ few found in
    let as_is : to_z w32 few.value ≡ pos few.value = to_z_pos w32 (omega arith) in
    record {
      left = λ e. cc;
      taken = λ q e.
          is_taken _ _ _ _ _ _ few found c.requires.2.is c.mode_at.ensures c.requires.3 c.requires.4 c.requires.5
          (sym c.takes.ensures ∙ c.if-not-takes.false) (rw as_is at c.number_put.ensures) c.if-not-number_put.false
          (let same : c.past_field.result ≡ q = cc in sym same ∙ c.past_field.ensures);
    }
