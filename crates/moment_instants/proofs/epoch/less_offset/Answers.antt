-- `moment_instants::epoch::less_offset` meets its contract: 64 bits hold the microseconds of any offset, so only the
-- sum is tested. Assumes nothing.
use Rattle.std.proofs.Common.{rules}
use lib.IntN.{+ℤ_idl, +ℤ_idr}
use mir.Facts.{to_z-of_z}
use mir.Syntax.{w32}
use mir.Val.{SFits}
use Rattle.calendar_gregorian.proofs.Signed.{wide}
use Rattle.moment_instants.specs.Instant.{less_offset}
use Rattle.moment_instants.proofs.Seconds.{offset_fits, less_fits}
use Rattle.moment_instants.proofs.epoch.less_offset.Goals as goal

-- no offset: nothing is added
pub returns-in-None : goal.returns-in-None
unfolding less_offset
returns-in-None c = rw c.in-None.is (simp (to_z-of_z c.ranges.wall, +ℤ_idr) at c.added.ensures)

-- an offset: its negative is added
pub returns-in-Some : goal.returns-in-Some
unfolding less_offset
returns-in-Some c =
    let east : SFits w32 c.in-Some.seconds = search rules in
    rw c.in-Some.is
    (simp (to_z-of_z c.ranges.wall, c.from.ensures, wide east, to_z-of_z (offset_fits east), +ℤ_idl, to_z-of_z (less_fits east)) at c.added-in-Some.ensures)
