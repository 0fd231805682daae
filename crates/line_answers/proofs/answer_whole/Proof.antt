-- `line_answers::answer_whole` meets its contract: it tests the length, then cuts the line at the first TAB.
-- Assumes nothing.
use borrow.Author.Rules.{rules}
use Rattle.line_answers.proofs.Cuts.{cut_at, too_long, uncut}
use Rattle.line_answers.proofs.answer_whole.Statement.{statement}
use Rattle.line_answers.proofs.answer_whole.Tie as tie

-- too long
returns : tie.Need-returns-then-len-gt-LINE
returns c =
    let after_answer = c.before.before in
    rw (too_long _ _ after_answer.if-len-gt-LINE.true) after_answer.answer_too_long.ensures

-- a TAB
returns-2 : tie.Need-returns-then-cut-len
returns-2 c =
    let after_answer = c.before.before in
    let at_tab = after_answer.before.before.before.before in
    let after_find = at_tab.before in
    rw (cut_at _ _ _ after_find.if-len-gt-LINE.false after_find.find-cut.ensures at_tab.if-cut-len.true) after_answer.answer_pair.ensures

-- none
returns-3 : tie.Need-returns
returns-3 c =
    let after_answer = c.before.before in
    let at_end = after_answer.before.before.before in
    let after_find = at_end.before in
    rw (uncut _ _ _ after_find.if-len-gt-LINE.false after_find.find-cut.ensures at_end.if-cut-len.false) after_answer.answer_pair-2.ensures

pub answer_whole_spec : {M : Type 1} → statement M
answer_whole_spec =
    tie.close
    (tie.spec
    (λ c κs. search rules)
    (λ c. search rules)
    returns
    (λ c κs. search rules)
    (λ c. search rules)
    (λ c. search rules)
    (λ c. search rules)
    (λ c. search rules)
    (λ c. search rules)
    (λ c. search rules)
    (λ c. search rules)
    (λ c κs. search rules)
    (λ c. search rules)
    returns-2
    (λ c κs. search rules)
    (λ c. search rules)
    returns-3)
