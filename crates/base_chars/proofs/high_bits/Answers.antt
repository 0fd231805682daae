-- `base_chars::high_bits` meets its contract: the mask leaves the high bit of each byte. Assumes nothing.
use Rattle.std.proofs.Common.{rules}
use Rattle.base_chars.proofs.HighBits.{eight_high}
use Rattle.base_chars.proofs.high_bits.Goals as goal

pub returns : goal.returns
returns c = rw c.from_le_bytes.ensures (eight_high c.args.bytes.now (search rules) (search rules))
