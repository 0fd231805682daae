-- `read_input::lane::lane`: what is left, read from where reading is, gives what was to be read.
use Rattle.std.proofs.Common.{◌≤◌, ◌-◌}
use lib.Dec.{eqb}
use lib.ListN.{drop}
use Rattle.template_nodes.specs.Bytes.{nodes_in}
use Rattle.read_fields.specs.Fields.{fields_of}
use Rattle.read_input.specs.Reader.{read_from}
use Rattle.read_input.specs.Turn.{Turned}
use Rattle.read_input.proofs.lane.lane.Given as goal

abbrev pub invariant-loop-i : goal.invariant-loop-i
invariant-loop-i l =
    (l.from ≤ l.i)
    × Turned l.t l.s (nodes_in l.c) (read_from l.t l.s (drop l.from (nodes_in l.c)) (eqb l.from 0) (fields_of l.initial.f) l.initial.p) l.i (fields_of l.f) l.p

abbrev pub decreases-loop-i : goal.decreases-loop-i
decreases-loop-i l = l.count - l.i
