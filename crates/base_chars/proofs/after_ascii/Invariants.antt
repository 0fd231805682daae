-- `base_chars::after_ascii`: the text from `i` on is well-formed exactly when the text from `at` on is.
use Rattle.std.proofs.Common.{◌-◌, ◌≤◌, length}
use Rattle.base_chars.specs.Utf8.{Passed}
use Rattle.base_chars.proofs.after_ascii.Given as goal

abbrev pub invariant-loop-bytes : goal.invariant-loop-bytes
invariant-loop-bytes l = (l.i ≤ length l.s) × Passed l.s l.at l.i

abbrev pub decreases-loop-bytes : goal.decreases-loop-bytes
decreases-loop-bytes l = length l.s - l.i
