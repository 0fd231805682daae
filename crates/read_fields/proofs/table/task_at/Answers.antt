-- `read_fields::table::task_at`: the row of a pattern, unpacked, is its task.
use Rattle.read_fields.proofs.Assigned.{assigned}
use Rattle.read_fields.proofs.table.task_at.Goals as goal

pub returns : goal.returns
returns c = rw c.row_of-x.ensures (assigned c.args.pattern)
