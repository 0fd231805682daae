-- `sorbilgan::writing::put_written` meets its contract: in each case `put_value` stores that case's record, and a
-- length within 63 bits keeps its value as an i64. Assumes nothing.
use Rattle.std.proofs.Common.{refl, ap}
use mir.Facts.{to_z_pos}
use mir.Syntax.{w64}
use Rattle.sorbilgan_records.proofs.Values.{value_recorded}
use Rattle.sorbilgan.specs.Writing.{written_record}
use Rattle.sorbilgan.proofs.writing.put_written.Goals as goal

-- a text was written
pub returns-in-Ok : goal.returns-in-Ok
unfolding written_record
returns-in-Ok c = value_recorded c.alone.ensures (to_z_pos w64 (c.requires _ c.in-Ok.is)) (ap written_record c.in-Ok.is) c.put_value.ensures

-- a refusal
pub returns-in-Err : goal.returns-in-Err
unfolding written_record
returns-in-Err c = value_recorded c.report_of.ensures refl (ap written_record c.in-Err.is) c.put_value-in-Err.ensures
