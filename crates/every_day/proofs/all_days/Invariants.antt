-- `every_day::all_days` has counted no more days than their numbers allow.
use Rattle.std.proofs.Common.{◌≤◌}
use Rattle.every_day.proofs.all_days.Given as goal

abbrev pub invariant-loop-day : goal.invariant-loop-day
invariant-loop-day l = l.count ≤ l.day
