-- `write_text::text_length`: the length so far and that of the nodes left make the whole.
use Rattle.std.proofs.Common.{◌≡◌, ◌+◌, ◌*◌, ◌≤◌, length}
use lib.ListN.{drop}
use Rattle.template_nodes.specs.Bytes.{nodes_in}
use Rattle.write_text.specs.Text.{nodes_text}
use Rattle.write_text.specs.Writer.{text_in}
use Rattle.write_text.proofs.text_length.Given as goal

abbrev pub invariant-loop-i : goal.invariant-loop-i
invariant-loop-i l =
    (l.total ≤ 65535 * l.i) × (l.total + length (nodes_text l.t l.m.moment (drop l.i (nodes_in l.c))) ≡ length (text_in l.c l.t l.m.moment))
