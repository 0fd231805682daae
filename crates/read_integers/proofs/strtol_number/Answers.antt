-- `read_integers::strtol_number`: both ways of reading are the definition's, and end within the input.
use Rattle.std.proofs.Common.{◌∙◌, ap}
use Rattle.read_integers.specs.Number.{checked}
use Rattle.read_integers.proofs.Numbers.{found_free, found_fixed}
use Rattle.read_integers.proofs.strtol_number.Goals as goal

pub returns-then-free : goal.returns-then-free
returns-then-free c = found_free _ _ _ _ c.requires _ _ c.if-free.true (c.checked.ensures ∙ ap (checked _ _) c.c_strtol.ensures)

pub returns : goal.returns
returns c = found_fixed _ _ _ _ c.requires _ _ c.if-free.false c.fixed.ensures
