-- `sorbilgan_records::put_fields` meets its contract: plain fields in range make the moment that is recorded.
-- Assumes nothing.
use Rattle.std.proofs.Common.{◌∙◌, sym}
use Rattle.moment_parts.proofs.PlainMoment.{plain_moment}
use Rattle.sorbilgan_records.proofs.put_fields.Goals as goal

pub returns-then-has_plain_moment : goal.returns-then-has_plain_moment
returns-then-has_plain_moment c =
    rw (plain_moment _ _ (sym c.has_plain_moment.ensures ∙ c.if-has_plain_moment.true)) (rw c.plain_parts.ensures at c.put_moment.ensures)
