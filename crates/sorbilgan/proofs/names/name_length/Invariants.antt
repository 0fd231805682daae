-- `sorbilgan::names::name_length`: the bytes passed are the name's.
use Rattle.std.specs.Prelude.{◌≤◌, length}
use Rattle.template_patterns.specs.Patterns.{name_of}
use Rattle.sorbilgan.proofs.names.name_length.Given as goal

abbrev pub invariant-loop-len : goal.invariant-loop-len
invariant-loop-len l = l.len ≤ length (name_of l.number)
