-- `moment_instants::epoch::wall_from_tm` meets its contract: the test of the seconds is the test of their microseconds.
-- Assumes nothing.
use Rattle.std.proofs.Common.{rules}
use borrow.Author.Tests.{lt-ltb}
use lib.IntN.{pos, ◌*ℤ◌}
use lib.Signed.{mag}
use mir.Facts.{to_z-of_z}
use Rattle.std.specs.Prelude.{◌^◌}
use Rattle.calendar_gregorian.proofs.Signed.{wide}
use Rattle.moment_instants.specs.Instant.{seconds_of, wall_of}
use Rattle.moment_instants.proofs.Seconds.{returned, Ranged, too_few, too_many, micros_fit}
use Rattle.moment_instants.proofs.epoch.wall_from_tm.Goals.{then-seconds-via-then-seconds, then-seconds-via-else-seconds+then-seconds-gt-MOST_SECONDS}
use Rattle.moment_instants.proofs.epoch.wall_from_tm.Goals as goal

-- too early or too late
pub returns-then-seconds : goal.returns-then-seconds
unfolding wall_of
returns-then-seconds c =
    let seconds_are = returned c.seconds_of-seconds.type_inv c.seconds_of-seconds.ensures in
    elim c.then-seconds.branch [
      | then-seconds-via-then-seconds w ↦ rw (too_few (seconds_of c.args.p) (rw seconds_are at w.if-seconds.true))
      | then-seconds-via-else-seconds+then-seconds-gt-MOST_SECONDS w ↦ rw (too_many (seconds_of c.args.p) (rw seconds_are at w.if-seconds-gt-MOST_SECONDS.true))
    ]

-- past both tests the microseconds of the seconds fit 64 bits, and the fraction is added
pub returns : goal.returns
unfolding wall_of
returns c =
    let fits : Ranged c.args.p = search rules in
    let seconds_are = returned c.seconds_of-seconds.type_inv c.seconds_of-seconds.ensures in
    let whole = micros_fit (seconds_of c.args.p) (rw seconds_are at c.if-seconds.false) (rw seconds_are at c.if-seconds-gt-MOST_SECONDS.false) in
    rw (lt-ltb (mag (seconds_of c.args.p *ℤ pos 1000000)) (2 ^ 63) whole.sfits)
    (simp (seconds_are, to_z-of_z whole, c.from.ensures, wide fits.micros) at c.added.ensures)
