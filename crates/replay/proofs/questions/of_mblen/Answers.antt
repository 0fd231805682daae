-- `replay::questions::of_mblen` meets its contract: what is measured is the text that the item is.
use Rattle.std.proofs.Common.{◌≡◌, refl, pos, to_z, w64, arith}
use mir.Facts.{to_z_pos}
use Rattle.replay.specs.Answers.{of_mblen}
use Rattle.replay.proofs.Texts.{part_is, part_fits}
use Rattle.replay.proofs.questions.of_mblen.Goals as goal

-- no place
pub returns-in_default : goal.returns-in_default
unfolding of_mblen
returns-in_default c = rw (← c.in_default.ensures.place) refl

-- no text
pub returns-in_err-count : goal.returns-in_err-count
unfolding of_mblen
returns-in_err-count c =
    rw (← c.in-Ok.ensures.place, ← c.in_err-count.ensures.is) c.from_residual.ensures

-- the text is within the buffer
pub slice_bounds-pg_mblen-end : goal.slice_bounds-pg_mblen-end
slice_bounds-pg_mblen-end c = part_fits c.in_ok-count.ensures

-- a length, of at most 4
pub returns : goal.returns
unfolding of_mblen
returns c =
    let read = c.in_ok-count.ensures in
    let measured = c.pg_mblen.ensures in
    let small : to_z w64 c.pg_mblen.result ≡ pos c.pg_mblen.result = to_z_pos w64 (omega (arith, measured.most)) in
    rw (← c.in-Ok.ensures.place, ← read.is, small, measured.is, part_is read)
