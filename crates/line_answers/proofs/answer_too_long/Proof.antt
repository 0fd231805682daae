-- `line_answers::answer_too_long` meets its contract: it puts the report of that refusal. Assumes nothing.
use borrow.Author.Rules.{rules}
use Rattle.line_answers.specs.Lines.{too_long_answer}
use Rattle.line_answers.proofs.answer_too_long.Statement.{statement}
use Rattle.line_answers.proofs.answer_too_long.Tie as tie

-- the report
returns : tie.Need-returns
unfolding too_long_answer
returns c =
    let after_put = c.before.before in
    rw after_put.report_of.ensures at after_put.put_report.ensures

pub answer_too_long_spec : {M : Type 1} → statement M
answer_too_long_spec =
    tie.close (tie.spec (λ c κs. search rules) (λ c κs. search rules) (λ c. search rules) returns)
