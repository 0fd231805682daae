-- `write_pieces::output::put_bytes`: the rest of the text, put from the place of the next byte on, makes what the whole
-- text makes of the buffer lent.
use Rattle.std.proofs.Common.{◌≡◌, ◌+◌}
use lib.ListN.{drop}
use lib.Seq.{sets}
use Rattle.write_pieces.proofs.output.put_bytes.Given as goal

abbrev pub invariant-loop-i : goal.invariant-loop-i
invariant-loop-i l = sets l.out (l.at + l.i) (drop l.i l.text) ≡ sets l.fn.out l.at l.text
