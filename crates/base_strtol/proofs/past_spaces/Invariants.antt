-- `base_strtol::past_spaces`: the place past the spaces from here on never changes.
use Rattle.std.proofs.Common.{◌≡◌, ◌+◌, ◌≤◌, max, length, drop}
use Rattle.base_strtol.specs.Runs.{spaces}
use Rattle.base_strtol.proofs.past_spaces.Given as goal

abbrev pub invariant-loop-i : goal.invariant-loop-i
invariant-loop-i l = record {
  room : l.i ≤ max l.at (length l.s);
  same : l.i + spaces (drop l.i l.s) ≡ l.at + spaces (drop l.at l.s);
}
