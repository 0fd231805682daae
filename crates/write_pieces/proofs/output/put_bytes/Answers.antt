-- `write_pieces::output::put_bytes`: each turn puts the next byte of the text.
use Rattle.std.proofs.Common.{rules, ◌∙◌}
use Rattle.write_pieces.proofs.Puts.{next_byte}
use Rattle.write_pieces.proofs.output.put_bytes.Goals as goal

pub loop-i-preserved : goal.loop-i-preserved
loop-i-preserved c = next_byte c.loop-i.out c.args.at c.args.text.now c.loop-i.i (search rules) ∙ c.loop-i.invariant
