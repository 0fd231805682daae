-- `line_texts::answer_lines` meets its contract: by the invariant, the answers put, then those to the rest of the text,
-- are the text's. Assumes nothing.
use Prim.Native.Nat.{◌-◌}
use native.Mathlib.Omega.{arith}
use borrow.Author.Rules.{rules}
use lib.ListN.{length}
use Rattle.line_texts.proofs.Texts.{Answering, begun, more, full, ended, size}
use Rattle.line_texts.proofs.answer_lines.Statement.{statement}
use Rattle.line_texts.proofs.answer_lines.Tie as tie

abbrev invariant-loop : tie.invariant-loop-end
invariant-loop mode text long out₀ s₀ end₀ out s end = Answering mode long text out₀ out s end

abbrev decreases-loop : tie.decreases-loop-end
decreases-loop mode text long out₀ s₀ end₀ out s end = length text - end

-- no line is answered yet
loop-holds : tie.Need-loop-end-init invariant-loop decreases-loop
loop-holds c = begun _ _ _ _ c.find-end.ensures

loop-again : tie.Need-loop-end-preserved invariant-loop decreases-loop
loop-again c =
    let after_answer = c.before.before.before in
    let at_loop = after_answer.before.before.before.before.before.before in
    let a = at_loop.loop-end.invariant in
    let size_is = size _ _ _ _ a in
    more _ _ _ _ a (omega arith) (omega arith) after_answer.answer_line-next.ensures c.find-end-in-loop-end.ensures

-- no line is left
returns-2 : tie.Need-returns invariant-loop decreases-loop
returns-2 c = ended _ _ _ _ c.loop-end.invariant (omega arith)

pub answer_lines_spec : {M : Type 1} → statement M
answer_lines_spec =
    tie.close
    (tie.spec
    invariant-loop
    decreases-loop
    (λ c κs. search rules)
    loop-holds
    (λ c. let a = c.loop-end.invariant in omega (arith, a.within, size _ _ _ _ a))
    (λ c. size _ _ _ _ c.loop-end.invariant)
    -- there is no room for one more answer
    (λ c. full _ _ _ _ c.loop-end.invariant (omega arith))
    (λ c. c.loop-end.invariant.on)
    (λ c. omega (arith, c.loop-end.invariant.on))
    (λ c. omega (arith, c.loop-end.invariant.last))
    (λ c κs. search rules)
    (λ c. omega arith)
    (λ c. omega arith)
    (λ c κs. search rules)
    (λ c. omega arith)
    loop-again
    (λ c. size _ _ _ _ c.loop-end.invariant)
    returns-2)
