-- `replay::questions::of_utf8` meets its contract: what is tested is the text that the item is.
use Rattle.replay.specs.Answers.{of_utf8}
use Rattle.replay.proofs.Texts.{part_is, part_fits}
use Rattle.replay.proofs.questions.of_utf8.Goals as goal

-- no text
pub returns-in_err-count : goal.returns-in_err-count
unfolding of_utf8
returns-in_err-count c = rw (← c.in_err-count.ensures.is) c.from_residual.ensures

-- the text is within the buffer
pub slice_bounds-is_utf8-end : goal.slice_bounds-is_utf8-end
slice_bounds-is_utf8-end c = part_fits c.in_ok-count.ensures

-- a text
pub returns : goal.returns
unfolding of_utf8
returns c =
    let read = c.in_ok-count.ensures in
    rw (← read.is, c.flag_of.ensures, c.is_utf8.ensures, part_is read)
