-- `base_chars::sequence_of`: the bytes before the place `at + k` are there, and the rest decides.
use Rattle.std.proofs.Common.{◌≡◌, ◌+◌, ◌-◌, ◌≤◌, length, drop}
use Rattle.base_chars.specs.Utf8.{begins}
use Rattle.base_chars.proofs.Continued.{continued}
use Rattle.base_chars.proofs.sequence_of.Given as goal

abbrev pub invariant-loop-k : goal.invariant-loop-k
invariant-loop-k g l = record {
  room : l.at + l.k ≤ length l.s;
  same : begins (continued (g.row.N - 2)) (drop (l.at + 2) l.s) ≡ begins (continued (g.row.N - l.k)) (drop (l.at + l.k) l.s);
}
