-- `base_accents::whole` meets its contract: a letter is as long as itself and the marks after it. Assumes nothing.
use Rattle.std.proofs.Common.{arith}
use Rattle.base_accents.specs.Accents.{measure_of}
use Rattle.base_accents.proofs.Measures.{counted}
use Rattle.base_accents.proofs.whole.Goals as goal

pub returns-then-is_letter_at : goal.returns-then-is_letter_at
unfolding measure_of
returns-then-is_letter_at c =
    counted _ _ _ _
    (rw (← c.is_letter_at.ensures, c.if-is_letter_at.true, ← c.pg_mblen-n.ensures.is) (omega (arith, c.past_marks.ensures)))
