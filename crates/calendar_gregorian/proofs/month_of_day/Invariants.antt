-- `calendar_gregorian::month_of_day` keeps, over the months passed: their days, and that they end before the day.
use Rattle.std.proofs.Common.{◌≡◌, suc, pos, take}
use Rattle.calendar_gregorian.specs.Gregorian.{sum}
use Rattle.calendar_gregorian.specs.Civil.{lengths_in, month_of_day}
use Rattle.calendar_gregorian.proofs.Ends.{ended}
use Rattle.calendar_gregorian.proofs.month_of_day.Given as goal

abbrev pub invariant-loop-i : goal.invariant-loop-i
invariant-loop-i l = (l.end ≡ pos (sum (take l.i (lengths_in l.leap)))) × (suc (ended l.leap l.i l.day) ≡ month_of_day l.leap l.day)
