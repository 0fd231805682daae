-- `replay::questions::put_template` meets its contract: what is answered is the text that the item is.
use Rattle.replay.specs.Answers.{template_text}
use Rattle.replay.proofs.Texts.{part_is, part_fits}
use Rattle.replay.proofs.questions.put_template.Goals as goal

-- no text
pub returns-in_default : goal.returns-in_default
unfolding template_text
returns-in_default c = rw (← c.in_default.ensures.is) c.unknown.ensures

-- the text is within the buffer
pub slice_bounds-put_nodes-end : goal.slice_bounds-put_nodes-end
slice_bounds-put_nodes-end c = part_fits c.in-Some.ensures

-- a text
pub returns : goal.returns
unfolding template_text
returns c =
    let read = c.in-Some.ensures in
    rw (← read.is) (rw (part_is read) at c.put_nodes.ensures)
