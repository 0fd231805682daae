-- `moment_instants::epoch::clock_seconds` meets its contract: each product and each sum fits 64 bits. Assumes nothing.
use mir.Facts.{to_z-of_z}
use Rattle.calendar_gregorian.proofs.Signed.{wide}
use Rattle.moment_instants.proofs.Seconds.{hours_fit, minutes_fit, both_fit, clock_fits}
use Rattle.moment_instants.proofs.epoch.clock_seconds.Goals as goal

pub overflow_add-result-2 : goal.overflow_add-result-2
overflow_add-result-2 c =
    let h = c.ranges.hour in
    let m = c.ranges.minute in
    let s = c.ranges.second in
    rw (c.from.ensures, c.from-2.ensures, c.from-3.ensures, wide h, wide m, wide s, to_z-of_z (hours_fit h m s), to_z-of_z (minutes_fit h m s), to_z-of_z (both_fit h m s))
    (clock_fits h m s)

pub returns : goal.returns
returns c =
    let h = c.ranges.hour in
    let m = c.ranges.minute in
    let s = c.ranges.second in
    rw (c.from.ensures, c.from-2.ensures, c.from-3.ensures, wide h, wide m, wide s, to_z-of_z (hours_fit h m s), to_z-of_z (minutes_fit h m s), to_z-of_z (both_fit h m s), to_z-of_z (clock_fits h m s))
