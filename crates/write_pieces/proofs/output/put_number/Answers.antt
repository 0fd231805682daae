-- `write_pieces::output::put_number`: each turn puts the last of the digits that are left; at the end none is left.
use Rattle.std.proofs.Common.{◌+◌, ℕ, arith, sym, ◌∙◌, ap}
use Rattle.base_strtol.proofs.Decimals.{decimal-length}
use Rattle.write_pieces.proofs.Puts.{last_digit, no_digit}
use Rattle.write_pieces.proofs.output.put_number.Goals as goal

pub loop-i-preserved : goal.loop-i-preserved
loop-i-preserved c = last_digit c.loop-i.out c.args.at c.loop-i.i c.loop-i.rest (omega arith) ∙ c.loop-i.invariant

pub returns : goal.returns
returns c =
    record {
      is = sym (no_digit c.loop-i.out c.args.at c.loop-i.i c.loop-i.rest (omega arith)) ∙ c.loop-i.invariant;
      next = ap (λ (k : ℕ). c.args.at + k) (sym (decimal-length c.args.width c.args.n));
    }
