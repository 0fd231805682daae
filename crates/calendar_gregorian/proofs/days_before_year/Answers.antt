-- `calendar_gregorian::days_before_year` is the closed form of the sum over the years.
use Rattle.std.proofs.Common.{◌∙◌, ap, sym}
use Rattle.calendar_gregorian.specs.Gregorian.{before_year}
use Rattle.calendar_gregorian.proofs.Closed.{closed}
use Rattle.calendar_gregorian.proofs.Shift.{shifted}
use Rattle.calendar_gregorian.proofs.days_before_year.Goals as goal

pub returns : goal.returns
returns c = rw c.from.ensures (sym (ap before_year (shifted c.ranges.year).is ∙ closed _))
