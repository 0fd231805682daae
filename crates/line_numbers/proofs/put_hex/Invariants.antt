-- `line_numbers::put_hex` keeps that the bytes put, then those of the pairs that are left, are the item's.
use Rattle.std.proofs.Common.{◌≡◌}
use Rattle.std.specs.Slice.Iter.{chunks_exact_rest, chunks_exact_size}
use Rattle.line_numbers.proofs.Hex.{Decoded}
use Rattle.line_numbers.proofs.put_hex.Given as goal

abbrev pub invariant-loop-pair : goal.invariant-loop-pair
invariant-loop-pair l =
    (chunks_exact_size l.pair-iterator ≡ 2) × Decoded l.text l.initial.out l.at (chunks_exact_rest l.pair-iterator) l.out l.next
