-- `read_input::dch_from_char`: what is left, read from where reading is, gives the whole.
use Rattle.std.proofs.Common.{◌-◌, ◌/◌, length}
use Rattle.template_nodes.specs.Bytes.{nodes_in}
use Rattle.read_fields.specs.Fields.{fields_of}
use Rattle.read_input.specs.Reader.{read_all}
use Rattle.read_input.specs.Turn.{Turned}
use Rattle.read_input.proofs.dch_from_char.Given as goal

abbrev pub invariant-loop-i : goal.invariant-loop-i
invariant-loop-i l = Turned l.t l.s (nodes_in l.c) (read_all l.t l.s (nodes_in l.c)) l.i (fields_of l.f) l.p

abbrev pub decreases-loop-i : goal.decreases-loop-i
decreases-loop-i l = length l.c / 6 - l.i
