-- `replay::questions::of_strtol` meets its contract: the number is read from the text that the item is.
use Rattle.std.proofs.Common.{◌≡◌, ◌∙◌, ◌-◌, refl, FitsSigned, length, rules, to_z-of_z, w64}
use mir.Facts.{to_z_pos}
use Rattle.replay.specs.Answers.{of_strtol}
use Rattle.replay.proofs.Texts.{part_is, part_fits}
use Rattle.replay.proofs.Casts.{back, end_small, flagged}
use Rattle.replay.proofs.questions.of_strtol.Goals as goal

-- no place
pub returns-in_default : goal.returns-in_default
unfolding of_strtol
returns-in_default c = rw (← c.in_default.ensures.place) refl

-- no text
pub returns-in_err-count : goal.returns-in_err-count
unfolding of_strtol
returns-in_err-count c =
    rw (← c.in-Ok.ensures.place, ← c.in_err-count.ensures.is) c.from_residual.ensures

-- the text is within the buffer
pub slice_bounds-c_strtol-end : goal.slice_bounds-c_strtol-end
slice_bounds-c_strtol-end c = part_fits c.in_ok-count.ensures

-- its end can be cast: it is where it was sought, at a place, or within the text
pub overflow_cast-result : goal.overflow_cast-result
overflow_cast-result c =
    let read = c.read_bytes in
    let size : length read.new.text ≡ 512 = search rules in
    let small = end_small read.new.text (c.in_ok-count.count - 0) _ _ c.c_strtol-n.ensures c.in-Ok.ensures.below size in
    record { sfits = small }

-- a number
pub returns : goal.returns
unfolding of_strtol
returns c =
    let read = c.in_ok-count.ensures in
    let size : length c.read_bytes.new.text ≡ 512 = search rules in
    let found = c.c_strtol-n in
    let small = end_small c.read_bytes.new.text (c.in_ok-count.count - 0) _ _ found.ensures c.in-Ok.ensures.below size in
    let value_fits : FitsSigned w64 found.result.value = search rules in
    let over = back w64 (c.from.ensures ∙ flagged found.result.overflow) c.from.type_inv in
    rw (← c.in-Ok.ensures.place, ← read.is, to_z-of_z value_fits, to_z_pos w64 small, over, found.ensures, part_is read)
