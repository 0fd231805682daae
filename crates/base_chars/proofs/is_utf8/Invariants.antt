-- `base_chars::is_utf8`: what is left is well-formed exactly when the whole is.
use Rattle.std.proofs.Common.{◌-◌, ◌≤◌, length}
use Rattle.base_chars.specs.Utf8.{Passed}
use Rattle.base_chars.proofs.is_utf8.Given as goal

abbrev pub invariant-loop-i : goal.invariant-loop-i
invariant-loop-i l = (l.i ≤ length l.s) × Passed l.s 0 l.i

abbrev pub decreases-loop-i : goal.decreases-loop-i
decreases-loop-i l = length l.s - l.i
