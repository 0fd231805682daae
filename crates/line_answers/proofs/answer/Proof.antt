-- `line_answers::answer` meets its contract: it answers the bytes that count. Assumes nothing.
use mathlib.Core.Path.{◌≡◌}
use Prim.Native.Nat.{◌-◌}
use native.Mathlib.Omega.{arith}
use borrow.Author.Rules.{rules}
use Rattle.line_answers.specs.Lines.{answer_line, counted}
use Rattle.line_answers.proofs.Cuts.{counted_within}
use Rattle.line_answers.proofs.answer.Statement.{statement}
use Rattle.line_answers.proofs.answer.Tie as tie

-- no more bytes than the line has
slice_bounds-answer_whole-end : tie.Need-slice_bounds-answer_whole-end
slice_bounds-answer_whole-end c =
    let args = c.args in
    omega (arith, c.counted-len.ensures, counted_within args.mode args.line.now)

-- the answer to the bytes that count
returns : tie.Need-returns
unfolding answer_line
returns c =
    let after_answer = c.before.before in
    let after_count = after_answer.before.before.before in
    let args = after_count.args in
    let size : after_count.counted-len.result - 0 ≡ counted args.mode args.line.now = omega (arith, after_count.counted-len.ensures) in
    rw size at after_answer.answer_whole.ensures

pub answer_spec : {M : Type 1} → statement M
answer_spec =
    tie.close
    (tie.spec
    (λ c κs. search rules)
    (λ c. search rules)
    (λ c. search rules)
    slice_bounds-answer_whole-end
    (λ c κs. search rules)
    (λ c. search rules)
    returns)
