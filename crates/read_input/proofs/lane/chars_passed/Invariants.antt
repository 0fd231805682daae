-- `read_input::lane::chars_passed`: whatever the template and the fields are, what is left gives what was to be read.
use Rattle.std.proofs.Common.{ℕ, ◌≤◌, List, false}
use Rattle.template_nodes.specs.Bytes.{nodes_in}
use Rattle.read_fields.specs.declared.Fields.{Fields}
use Rattle.read_fields.specs.declared.Reading.{Reading}
use Rattle.read_literals.specs.Literals.{place}
use Rattle.read_input.specs.Turn.{Turned}
use Rattle.read_input.proofs.lane.chars_passed.Given as goal

abbrev pub invariant-loop-i : goal.invariant-loop-i
invariant-loop-i l =
    (l.from ≤ l.i)
    × ((t : List ℕ) (f : Fields) (whole : Reading) → Turned t l.s (nodes_in l.c) whole l.from f (place l.initial.at 0 false) → Turned t l.s (nodes_in l.c) whole l.i f (place l.at 0 false))
