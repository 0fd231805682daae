-- `replay::questions::answer` meets its contract: the name is before the first space.
use Rattle.replay.specs.Answers.{answer_to}
use Rattle.replay.proofs.Texts.{name_end, whole}
use Rattle.replay.proofs.questions.answer.Goals as goal

-- the name is before the first space
pub returns : goal.returns
unfolding answer_to
returns c =
    rw (← name_end c.find-end.ensures) (rw whole at c.put_named.ensures)
