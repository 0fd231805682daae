-- `line_texts::answer_line` meets its contract: the answer is put, and then the newline. Assumes nothing.
use borrow.Author.Rules.{rules}
use native.Mathlib.Omega.{arith}
use Rattle.line_texts.proofs.Texts.{long_answered, line_answered}
use Rattle.line_texts.proofs.answer_line.Statement.{statement}
use Rattle.line_texts.proofs.answer_line.Tie as tie

-- a line whose beginning was left off
returns : tie.Need-returns-then-long
returns c =
    let after_newline = c.before.before in
    let after_answer = after_newline.before.before.before.before in
    let at_test = after_answer.before.before in
    rw at_test.if-long.true (long_answered _ _ after_answer.answer_too_long-end.ensures after_newline.put_byte.ensures)

-- a whole line
returns-2 : tie.Need-returns
returns-2 c =
    let after_newline = c.before.before in
    let after_answer = after_newline.before.before.before.before in
    let at_test = after_answer.before.before in
    rw at_test.if-long.false (line_answered _ _ after_answer.answer-end.ensures after_newline.put_byte-2.ensures)

pub answer_line_spec : {M : Type 1} → statement M
answer_line_spec =
    tie.close
    (tie.spec
    (λ c κs. search rules)
    (λ c κs. search rules)
    (λ c. search rules)
    returns
    (λ c κs. search rules)
    (λ c κs. search rules)
    (λ c. search rules)
    returns-2)
