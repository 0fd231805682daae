-- `base_chars::pg_mblen` meets its contract: past the end no byte is left, and below 0xc0 a character is one byte.
-- Assumes nothing.
use Rattle.std.proofs.Common.{arith}
use Rattle.std.proofs.lemmas.Grind.{common_steps}
use Rattle.base_chars.specs.Character.{char_length}
use Rattle.base_chars.proofs.Characters.{measured, lead_one}
use Rattle.base_chars.proofs.pg_mblen.Goals as goal

pub returns-in_default : goal.returns-in_default
unfolding char_length
returns-in_default c = measured _ _ _ (grind (arith, common_steps))

pub returns-then-b-lt192 : goal.returns-then-b-lt192
unfolding char_length
returns-then-b-lt192 c = measured _ _ _ (grind (arith, common_steps, lead_one))

pub returns : goal.returns
unfolding char_length
returns c = measured _ _ _ (grind (arith, common_steps))
