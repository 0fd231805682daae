-- `base_chars::after_bytes`: the text from `i` on is well-formed exactly when the text from `at` on is.
use Rattle.base_chars.specs.Utf8.{Passed}
use Rattle.base_chars.proofs.after_bytes.Given as goal

abbrev pub invariant-loop-i : goal.invariant-loop-i
invariant-loop-i l = Passed l.s l.at l.i
