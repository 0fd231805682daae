-- `base_strtol::digits_at`: the number so far with the digits that are left is the number of all digits.
use Rattle.std.proofs.Common.{◌≤◌, max, length}
use Rattle.base_strtol.proofs.Digits.{Reading}
use Rattle.base_strtol.proofs.digits_at.Given as goal

abbrev pub invariant-loop-i : goal.invariant-loop-i
invariant-loop-i l = record {
  room : l.i ≤ max l.at (length l.s);
  read : Reading l.most l.s l.at l.value l.over l.i;
}
