-- What every record keeps to. Entry 0 is 0 where the answer was accepted, and then the other entries are in range; else
-- it is the number of the refusal, and all that would have been read is 0.
use Rattle.std.specs.Prelude.{◌≡◌, refl, Bool, false, List, ℕ, zero, suc, ℤ, pos, negsuc, nat_abs, drop, get_or, replicate, Err, None, Ok, Option, Result, Some}
use Rattle.std.proofs.Common.{inl, arith}
use Rattle.base_refusals.specs.Report.{report_of}
use Rattle.base_refusals.specs.declared.Refusal.TheVariants.{Short}
use Rattle.moment_parts.specs.Ranges.{InRange, ReadNumber, Within}
use Rattle.moment_parts.specs.Report.{unread_report}
use Rattle.moment_parts.specs.declared.Parts.{Parts}
use Rattle.moment_parts.specs.declared.Unread.TheVariants.{By}
use Rattle.moment_instants.specs.Ranges.{DayNumber, Finite32, Finite64, InstantNumber}
use Rattle.sorbilgan_records.specs.Records.{parts_record, instant_record, day_record}
use Rattle.moment_parts.specs.declared.Unread.{Unread}
use Rattle.moment_instants.specs.declared.epoch.Undated.{Undated}

-- the entry k of a record
abbrev pub entry : List ℤ → ℕ → ℤ
entry r k = get_or r k (pos 0)

-- the record of a refusal whose number is as Number says, where n numbers would have been read
pub record RefusedRecord (Number : ℕ → Type 0) (n : ℕ) (r : List ℤ) : Type 0 where
  pub number : ℕ
  pub is : entry r 0 ≡ pos number
  pub known : Number number
  pub nothing : drop 4 r ≡ replicate n (pos 0)

-- the parts that a record holds: whether there is an offset is entry 12, which is 0 where there is none
abbrev pub offset_held : ℤ → ℤ → Option ℤ
offset_held (pos zero) z = None
offset_held (pos (suc n)) z = Some z
offset_held (negsuc n) z = Some z

abbrev pub held : List ℤ → Parts
held r = record {
  year = entry r 4;
  month = entry r 5;
  day = entry r 6;
  hour = entry r 7;
  minute = entry r 8;
  second = entry r 9;
  micros = entry r 10;
  precision = entry r 11;
  offset = offset_held (entry r 12) (entry r 13);
  marks = nat_abs (entry r 14);
}

-- the parts record of a moment: the parts that it holds are in range, and so is what the marks say of them
pub record MomentRecord (strict : Bool) (r : List ℤ) : Type 0 where
  pub number : entry r 0 ≡ pos 0
  pub zoned : Within 0 1 (entry r 12)
  pub no_offset : entry r 12 ≡ pos 0 → entry r 13 ≡ pos 0
  pub marks : Within 0 7 (entry r 14)
  pub parts : InRange strict (held r)

-- the parts record of an answer: a moment, or a refusal by its number
abbrev pub PartsRecorded : Bool → Result Parts Unread → Type 0
PartsRecorded strict (Ok p) = MomentRecord strict (parts_record (Ok p))
PartsRecorded strict (Err why) = RefusedRecord (ReadNumber strict) 11 (parts_record (Err why))

-- a value record whose value is as P says
pub record ValueRecord (P : ℤ → Type 0) (r : List ℤ) : Type 0 where
  pub number : entry r 0 ≡ pos 0
  pub value : P (entry r 4)

-- the value record of an instant, and of a day, or of a refusal by its number
abbrev pub InstantRecorded : Bool → Result ℤ Undated → Type 0
InstantRecorded strict (Ok z) = ValueRecord Finite64 (instant_record (Ok z))
InstantRecorded strict (Err why) = RefusedRecord (InstantNumber strict) 1 (instant_record (Err why))

abbrev pub DayRecorded : Bool → Result ℤ Undated → Type 0
DayRecorded strict (Ok z) = ValueRecord Finite32 (day_record (Ok z))
DayRecorded strict (Err why) = RefusedRecord (DayNumber strict) 1 (day_record (Err why))

-- DD with 1 byte left of 2 is refused by number 5; the day before 1970 is a day
pub worked : PartsRecorded false (Err (By (Short 9 2 1))) × DayRecorded false (Ok (negsuc 0))
unfolding parts_record day_record unread_report report_of
worked = (
  record { number = 5; is = refl; known = inl (omega arith, omega arith); nothing = refl },
  record { number = refl; value = record { above = refl; below = refl } },
)
