-- An answer with one value, stored by `put_value`.
-- `value_recorded`: where the report and the value that were passed are those of an answer's record, the record is
-- stored. Assumes nothing.
use mathlib.Core.Path.{◌≡◌}
use mathlib.Core.List.{List}
use Prim.Native.Nat.{ℕ}
use lib.IntN.{ℤ}
use Rattle.base_refusals.specs.declared.Report.{Report}
use Rattle.sorbilgan_records.specs.Records.{Recorded, value_record}

pub value_recorded : {report r : Report} {value z : ℤ} {entries after : List ℤ} {n : ℕ} → r ≡ report → z ≡ value
    → entries ≡ value_record report value → Recorded (value_record r z) after n → Recorded entries after n
value_recorded report_is value_is entries_are recorded = rw entries_are (rw (report_is, value_is) at recorded)
