-- `line_buffers::output::digits_of` has yet to store the digits of what is left, before those stored.
use Rattle.line_buffers.proofs.Digits.{Spelt}
use Rattle.line_buffers.proofs.output.digits_of.Given as goal

abbrev pub invariant-loop-first : goal.invariant-loop-first
invariant-loop-first l = Spelt l.n l.text l.first l.rest
