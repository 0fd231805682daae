-- `base_strtol::few_digits`: the number so far with the digits that are left is the number of all digits.
use Rattle.std.proofs.Common.{false, ◌<◌, ◌≤◌, max, length}
use Rattle.base_strtol.specs.Strtol.{limit}
use Rattle.base_strtol.proofs.Digits.{Reading}
use Rattle.base_strtol.proofs.few_digits.Given as goal

abbrev pub invariant-loop-i : goal.invariant-loop-i
invariant-loop-i l = record {
  room : l.i ≤ max l.at (length l.s);
  few : l.value < 1000000000;
  read : Reading (limit false) l.s l.at l.value false l.i;
}
