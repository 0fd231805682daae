-- `moment_instants::epoch::seconds_of` meets its contract: the days of 32-bit numbers, in seconds, and the seconds of
-- the clock are far from the ends of 64 bits. Assumes nothing.
use Rattle.std.proofs.Common.{rules}
use mir.Facts.{to_z-of_z}
use Rattle.moment_instants.specs.Instant.{seconds_of}
use Rattle.moment_instants.proofs.Seconds.{returned, Ranged, days_fit, seconds_fit}
use Rattle.moment_instants.proofs.epoch.seconds_of.Goals as goal

pub overflow_mul-result : goal.overflow_mul-result
overflow_mul-result c =
    let fits : Ranged c.args.p = search rules in
    rw (returned c.days_of.type_inv c.days_of.ensures) (days_fit fits)

pub overflow_add-result : goal.overflow_add-result
overflow_add-result c =
    let fits : Ranged c.args.p = search rules in
    let clock_is = returned c.clock_seconds-clock.type_inv (simp (to_z-of_z fits.hour, to_z-of_z fits.minute, to_z-of_z fits.second) at c.clock_seconds-clock.ensures) in
    rw (returned c.days_of.type_inv c.days_of.ensures, to_z-of_z (days_fit fits), clock_is) (seconds_fit fits)

pub returns : goal.returns
unfolding seconds_of
returns c =
    let fits : Ranged c.args.p = search rules in
    let clock_is = returned c.clock_seconds-clock.type_inv (simp (to_z-of_z fits.hour, to_z-of_z fits.minute, to_z-of_z fits.second) at c.clock_seconds-clock.ensures) in
    rw (returned c.days_of.type_inv c.days_of.ensures, to_z-of_z (days_fit fits), clock_is, to_z-of_z (seconds_fit fits))
