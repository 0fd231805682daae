-- `sorbilgan::names::name_length` meets its contract: the first space ends the name. Assumes nothing.
use native.Mathlib.Omega.{arith}
use Rattle.template_patterns.proofs.Names.{name_length, at_space, at_letter}
use Rattle.sorbilgan.proofs.names.name_length.Goals as goal

-- at a space
pub returns-then-names-number-eq32 : goal.returns-then-names-number-eq32
returns-then-names-number-eq32 c =
    omega (arith, at_space c.args.number c.requires.1 c.loop-len.len (omega arith) (rw c.requires.0 at c.if-names-number-eq32.true))

pub loop-len-preserved : goal.loop-len-preserved
loop-len-preserved c =
    omega (arith, (at_letter c.args.number c.requires.1 c.loop-len.len (omega arith) (rw c.requires.0 at c.if-names-number-eq32.false)).0)

-- a name of five letters
pub returns : goal.returns
returns c = omega (arith, name_length c.args.number c.requires.1)
