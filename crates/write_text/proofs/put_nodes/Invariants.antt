-- `write_text::put_nodes`: the text of the nodes left has room, and putting it makes the buffer what it is to be.
use Rattle.std.proofs.Common.{◌≡◌, ◌+◌, ◌≤◌, length}
use lib.ListN.{drop}
use lib.Seq.{sets}
use Rattle.template_nodes.specs.Bytes.{nodes_in}
use Rattle.write_text.specs.Text.{nodes_text}
use Rattle.write_text.specs.Writer.{text_in}
use Rattle.write_text.proofs.put_nodes.Given as goal

abbrev pub invariant-loop-i : goal.invariant-loop-i
invariant-loop-i l =
    let left = nodes_text l.t l.m.moment (drop l.i (nodes_in l.c)) in
    (l.at + length left ≤ length l.out) × (sets l.out l.at left ≡ sets l.fn.out 0 (text_in l.c l.t l.m.moment))
