-- `line_answers::answer_pair` meets its contract: in each mode that mode's answer is put. Assumes nothing.
use borrow.Author.Rules.{rules}
use Rattle.line_answers.specs.Lines.{pair_answer}
use Rattle.line_answers.proofs.answer_pair.Statement.{statement}
use Rattle.line_answers.proofs.answer_pair.Tie as tie

-- the parts
returns : tie.Need-returns-in-Parts
unfolding pair_answer
returns c =
    let after_answer = c.before.before in
    rw after_answer.in-Parts.is after_answer.parts.ensures

-- the instant
returns-2 : tie.Need-returns-in-Instant
unfolding pair_answer
returns-2 c =
    let after_answer = c.before.before in
    rw after_answer.in-Instant.is after_answer.instant.ensures

-- the day
returns-3 : tie.Need-returns-in-Date
unfolding pair_answer
returns-3 c =
    let after_answer = c.before.before in
    rw after_answer.in-Date.is after_answer.day.ensures

-- the text
returns-4 : tie.Need-returns-in-Write
returns-4 c =
    let after_answer = c.before.before in
    rw after_answer.in-Write.is after_answer.text.ensures

pub answer_pair_spec : {M : Type 1} → statement M
answer_pair_spec =
    tie.close
    (tie.spec
    (λ c. search rules)
    (λ c κs. search rules)
    (λ c. search rules)
    (λ c κs. search rules)
    (λ c. search rules)
    (λ c κs. search rules)
    (λ c. search rules)
    (λ c κs. search rules)
    (λ c. search rules)
    returns
    (λ c. search rules)
    returns-2
    (λ c. search rules)
    returns-3
    (λ c. search rules)
    returns-4)
