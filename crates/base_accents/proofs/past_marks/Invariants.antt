-- `base_accents::past_marks`: the place past the marks from here on never changes.
use Rattle.std.proofs.Common.{◌≡◌, ◌+◌, ◌-◌, length, drop}
use Rattle.base_accents.specs.Accents.{marks}
use Rattle.base_accents.proofs.past_marks.Given as goal

abbrev pub invariant-loop-i : goal.invariant-loop-i
invariant-loop-i l = l.i + marks (drop l.i l.s) ≡ l.at + marks (drop l.at l.s)

abbrev pub decreases-loop-i : goal.decreases-loop-i
decreases-loop-i l = length l.s - l.i
