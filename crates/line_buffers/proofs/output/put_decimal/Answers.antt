-- `line_buffers::output::put_decimal` puts a minus sign, for a number below 0, and then the digits of the magnitude.
use Rattle.std.proofs.Common.{w64, SFits, to_z-of_z}
use Rattle.line_buffers.proofs.Magnitude.{positive_text, negative_text}
use Rattle.line_buffers.proofs.Puts.{put_then}
use Rattle.line_buffers.proofs.output.put_decimal.Goals as goal
use Rattle.line_buffers.proofs.output.put_decimal.Goals.{then-value-lt0, else-value-lt0}

pub returns : goal.returns
returns c =
    let value = c.args.value in
    let value_fits : SFits w64 value = c.ranges.value in
    let magnitude = simp to_z-of_z at c.unsigned_abs.ensures.value in
    elim c.if-value-lt0.branch [
      | then-value-lt0 w ↦
          rw (negative_text value c.unsigned_abs.result magnitude (simp to_z-of_z at w.if-value-lt0.true))
          (put_then _ _ w.put_byte-start.ensures (rw (w.out-is, w.start-is) at c.put_digits.ensures))
      | else-value-lt0 w ↦
          rw (positive_text value c.unsigned_abs.result magnitude (simp to_z-of_z at w.if-value-lt0.false))
          (rw (w.out-is, w.start-is) at c.put_digits.ensures)
    ]
