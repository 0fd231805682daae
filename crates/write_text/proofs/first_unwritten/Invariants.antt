-- `write_text::first_unwritten`: the first unwritten of the nodes left is the first of all.
use Rattle.std.proofs.Common.{◌≡◌}
use lib.ListN.{drop}
use Rattle.template_nodes.specs.Bytes.{nodes_in}
use Rattle.write_text.specs.Writer.{first_unwritten}
use Rattle.write_text.proofs.first_unwritten.Given as goal

abbrev pub invariant-loop-i : goal.invariant-loop-i
invariant-loop-i l = first_unwritten (drop l.i (nodes_in l.c)) ≡ first_unwritten (nodes_in l.c)
