-- `replay::questions::put_line` meets its contract: what is answered is the text that the item is.
use Rattle.replay.specs.Answers.{line_text}
use Rattle.replay.proofs.Texts.{part_is, part_fits}
use Rattle.replay.proofs.questions.put_line.Goals as goal

-- no text
pub returns-in_default : goal.returns-in_default
unfolding line_text
returns-in_default c = rw (← c.in_default.ensures.is) c.unknown.ensures

-- the text is within the buffer
pub slice_bounds-answer-end : goal.slice_bounds-answer-end
slice_bounds-answer-end c = part_fits c.in-Some.ensures

-- a text
pub returns : goal.returns
unfolding line_text
returns c =
    let read = c.in-Some.ensures in
    rw (← read.is) (rw (part_is read) at c.answer.ensures.put)
