-- `read_fields::table::mode_at`: what is above the task in a row is the date mode.
use Rattle.std.proofs.Common.{◌/◌, ◌<◌, rules}
use Rattle.read_fields.proofs.Assigned.{mode_is, mode_small}
use Rattle.read_fields.proofs.table.mode_at.Goals as goal

pub overflow_cast-result : goal.overflow_cast-result
overflow_cast-result c =
    let small : c.row_of.result / 65536 < 256 = rw c.row_of.ensures (mode_small c.args.pattern) in
    search rules

pub returns : goal.returns
returns c = rw c.row_of.ensures (mode_is c.args.pattern)
