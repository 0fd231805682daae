-- `template_nodes::parse_format`: the nodes stored, then those of what is left of the template, are the template's.
-- A step takes a byte at least, so 256 nodes have room.
use Rattle.std.proofs.Common.{◌≡◌, ◌≤◌, ◌-◌, length}
use Rattle.template_nodes.proofs.Turns.{Read}
use Rattle.template_nodes.proofs.parse_format.Given as goal

abbrev pub invariant-loop-at : goal.invariant-loop-at
invariant-loop-at l =
    record {
      one_each : l.n ≤ l.at;
      few : l.n ≤ 256;
      same_length : length l.out ≡ length l.initial.out;
      read : Read l.accents l.t l.initial.out l.out l.n l.at l.quoted;
    }

abbrev pub decreases-loop-at : goal.decreases-loop-at
decreases-loop-at l = length l.t - l.at
