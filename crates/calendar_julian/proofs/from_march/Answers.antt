-- `calendar_julian::from_march` wraps each sum as the definition does.
use Rattle.std.proofs.Common.{lit<, refl}
use Rattle.calendar_julian.specs.ToDay.{from_march}
use Rattle.calendar_julian.proofs.Wrapping.{of, lit, add, sub, mul, quot, value}
use Rattle.calendar_julian.proofs.from_march.Goals as goal

pub returns : goal.returns
unfolding from_march
returns c =
    let year = of c.ranges.year refl in
    let month = of c.ranges.month refl in
    let century = quot 100 year in
    let days = sub (mul year (lit 365 (lit< tt))) (lit 32167 (lit< tt)) in
    let leap_days = add (sub (add days (quot 4 year)) century) (quot 4 century) in
    value (add (add leap_days (quot 256 (mul (lit 7834 (lit< tt)) month))) (of c.ranges.day refl))
