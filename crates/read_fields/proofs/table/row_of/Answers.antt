-- `read_fields::table::row_of`: the number of the table at the pattern's place is its row, and past the table a row is
-- 0.
use Rattle.std.proofs.Common.{rules, ◌≡◌, ◌∙◌, get_or}
use Rattle.read_fields.proofs.Rows.{row_in}
use Rattle.read_fields.proofs.table.row_of.Goals as goal

pub returns : goal.returns
returns c =
    let at : c.unwrap_or.result ≡ get_or c.rows.result.now c.args.pattern 0 = search rules in
    at ∙ row_in c.rows.result.now c.rows.ensures c.args.pattern
