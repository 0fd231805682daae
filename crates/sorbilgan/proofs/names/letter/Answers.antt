-- `sorbilgan::names::letter` meets its contract: a space in the row is past the name's end, any other byte is the
-- name's. Assumes nothing.
use Rattle.std.proofs.Common.{sym}
use lib.ListN.{get_or-eq_default}
use Rattle.template_patterns.proofs.Names.{at_space, at_letter}
use Rattle.template_patterns.specs.Patterns.{name_of}
use Rattle.sorbilgan.proofs.names.letter.Goals as goal

-- a space: 0
pub returns-then-b-eq32 : goal.returns-then-b-eq32
returns-then-b-eq32 c =
    let k = c.args.number in
    sym (get_or-eq_default (name_of k) 0 (at_space k c.requires.1 c.args.j c.requires.2 (rw c.requires.0 at c.if-b-eq32.true)))

-- a letter
pub returns-else-b-eq32 : goal.returns-else-b-eq32
returns-else-b-eq32 c =
    rw c.requires.0 (at_letter c.args.number c.requires.1 c.args.j c.requires.2 (rw c.requires.0 at c.if-b-eq32.false)).1
