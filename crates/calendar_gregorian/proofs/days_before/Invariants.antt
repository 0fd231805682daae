-- `calendar_gregorian::days_before` keeps the days of the months passed.
use Rattle.std.proofs.Common.{◌≡◌, pos, take}
use Rattle.calendar_gregorian.specs.Gregorian.{sum}
use Rattle.calendar_gregorian.specs.Civil.{lengths_in}
use Rattle.calendar_gregorian.proofs.days_before.Given as goal

abbrev pub invariant-loop-length : goal.invariant-loop-length
invariant-loop-length l = l.days ≡ pos (sum (take l.length-index (lengths_in l.leap)))
