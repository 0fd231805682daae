-- `write_pieces::output::put_number`: the first i digits of what is left of the number, put from the place on, make
-- what the whole number's digits make of the buffer lent.
use Rattle.std.proofs.Common.{◌≡◌}
use lib.Seq.{sets}
use Rattle.base_strtol.specs.Decimal.{decimal}
use Rattle.write_pieces.proofs.output.put_number.Given as goal

abbrev pub invariant-loop-i : goal.invariant-loop-i
invariant-loop-i l = sets l.out l.at (decimal l.i l.rest) ≡ sets l.fn.out l.at (decimal l.width l.n)
