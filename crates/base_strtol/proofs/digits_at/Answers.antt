-- `base_strtol::digits_at` meets its contract: the value is the number so far, held at the limit. Assumes nothing.
use Rattle.std.proofs.Common.{◌≡◌, ◌-◌, ◌^◌, ◌≤◌, ◌<◌, true, length, sym, ◌∙◌, arith}
use Rattle.base_notation.specs.Text.{byte_at}
use Rattle.base_chars.specs.Class.{is_digit}
use Rattle.base_chars.proofs.Classes.{digit_bounds}
use Rattle.base_strtol.proofs.Digits.{stopped, ended, full, more, limits}
use Rattle.base_strtol.proofs.digits_at.Goals as goal
use Rattle.base_strtol.proofs.digits_at.Goals.{then-room-value, else-room-value}

-- a byte that is no digit
pub returns-then-not-is_digit_c : goal.returns-then-not-is_digit_c
returns-then-not-is_digit_c c =
    let none = sym c.is_digit_c.ensures ∙ c.if-not-is_digit_c.true in
    stopped _ c.args.s.now _ _ _ _ c.loop-i.invariant.read _ c.limit_of-most.ensures (omega arith) none

-- a digit
pub overflow_sub-b : goal.overflow_sub-b
overflow_sub-b c = omega (arith, digit_bounds _ (sym c.is_digit_c.ensures ∙ c.if-not-is_digit_c.false))

pub loop-i-preserved : goal.loop-i-preserved
loop-i-preserved c =
    let s = c.args.s.now in
    let i = c.loop-i.i in
    let most = c.limit_of-most.result in
    let bounded : (2 ^ 63 - 1 ≤ most) × (most ≤ 2 ^ 63) = limits c.args.neg most c.limit_of-most.ensures in
    let digit : is_digit (byte_at s i) ≡ true = sym c.is_digit_c.ensures ∙ c.if-not-is_digit_c.false in
    let within : i < length s = omega arith in
    elim c.if-room-value.branch [
      -- it takes the number beyond the limit, or further beyond it
      | then-room-value w ↦
          record {
            room = omega arith;
            read = rw (w.value-is, w.over-is)
                (full most s _ _ _ i c.loop-i.invariant.read within digit (omega arith) (omega (arith, c.from-d.ensures, w.if-room-value.true)));
          }
      -- it leaves the number within the limit
      | else-room-value w ↦
          record {
            room = omega arith;
            read = rw (w.value-is, w.over-is, c.from-d.ensures)
                (more most s _ _ _ i c.loop-i.invariant.read within digit (omega arith) (omega (arith, c.from-d.ensures, w.if-room-value.false)));
          }
    ]

-- the end of the text
pub returns : goal.returns
returns c =
    let at_end : c.max.result ≡ c.loop-i.i = omega (arith, c.loop-i.invariant.room) in
    rw at_end (ended _ c.args.s.now _ _ _ _ c.loop-i.invariant.read _ c.limit_of-most.ensures (omega arith))
