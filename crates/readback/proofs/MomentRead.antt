-- Reading back, second half: from the fields to the moment. Assumes nothing.
-- `moment_read`: what any date group, any time group and US set is read as the moment that they were written from.
use Rattle.std.specs.Prelude.{Ok}
use mathlib.Core.Path.{◌≡◌, refl}
use mathlib.Core.Bool.{Bool, true, false, ◌&&◌}
use Prim.Native.Nat.{ℕ}
use native.Mathlib.Omega.{arith}
use borrow.Author.Tests.{lt-ltb, le-ltb}
use lib.Dec.{lit<}
use lib.IntN.{ℤ, pos}
use Rattle.calendar_gregorian.specs.Gregorian.{Valid, month_length}
use Rattle.calendar_gregorian.proofs.Dates.{length_range}
use Rattle.calendar_gregorian.proofs.Months.{month_length_lem}
use Rattle.moment_instants.proofs.Plain.{plain_parts}
use Rattle.moment_date.specs.Dates.{all_bits, days, date_in_range, no_such_day}
use Rattle.moment_parts.specs.Parts.{checked_moment, moment_of}
use Rattle.moment_time.specs.Time.{time_in_range}
use Rattle.read_fields.specs.Fields as F
use Rattle.read_fields.specs.declared.Fields.{Fields}
use Rattle.readback.proofs.MomentFacts.{IsMoment}
use Rattle.readback.proofs.GroupFields.{DateGroup, TimeGroup, date_values, time_values, fields_of, Same}
use Rattle.readback.proofs.DateGroups.{DateRead, date_read}
use Rattle.readback.proofs.FieldSteps.{micros_read, no_offset}
use Rattle.readback.proofs.TimeGroups.{TimeRead, time_read}

date_in_range_lem : {y m n : ℕ} → Valid y m n → (a b : ℤ) → date_in_range (days (pos y) (pos m) (pos n) all_bits a b) ≡ true
unfolding date_in_range
date_in_range_lem {y} {m} {n} v a b =
    rw (
      le-ltb m 1 v.month_from,
      le-ltb 12 m v.month_to,
      le-ltb n 1 v.day_from,
      le-ltb 31 n (omega (arith, length_range y m v.month_from v.month_to)),
      month_length_lem y m v.month_from,
      le-ltb (month_length y m) n v.day_to,
    )

-- a year is set, so the strict switch asks nothing
not_asked : (strict : Bool) (m n : ℤ) → (strict && no_such_day all_bits m n) ≡ false
unfolding no_such_day
not_asked true m n = refl
not_asked false m n = refl

module _ {y mo d h mi s us : ℕ} (is : IsMoment y mo d h mi s us) where
  time_in_range_lem : time_in_range (pos h) (pos mi) (pos s) (pos us) ≡ true
  unfolding time_in_range
  time_in_range_lem =
      rw (
        le-ltb h 0 (omega arith),
        lt-ltb h 24 is.hour,
        le-ltb mi 0 (omega arith),
        lt-ltb mi 60 is.minute,
        le-ltb s 0 (omega arith),
        lt-ltb s 60 is.second,
        le-ltb us 0 (omega arith),
        lt-ltb us 1000000 is.micros,
      )

  module _ (strict : Bool) (date : DateGroup) (time : TimeGroup) (f : Fields) (e : Same f (fields_of (date_values date y mo d) (time_values time h mi s) us)) where
    the_date : DateRead f y mo d
    the_date = date_read is.date f (time_values time h mi s) us date e

    the_time : TimeRead f h mi s
    the_time = time_read is.hour is.minute is.second f (date_values date y mo d) us time e

    -- the checks of the ranges pass
    checked : checked_moment strict f (days (pos y) (pos mo) (pos d) all_bits the_date.in_month the_date.in_year) (pos h) (pos us) ≡ Ok (plain_parts y mo d h mi s us)
    unfolding checked_moment
    checked =
        simp (
          date_in_range_lem is.date the_date.in_month the_date.in_year,
          not_asked strict (pos mo) (pos d),
          the_time.minute_is,
          the_time.second_is,
          time_in_range_lem,
          no_offset f (e F.tzsign (lit< tt)),
          e F.ff (lit< tt),
        )

    pub moment_read : moment_of strict f ≡ Ok (plain_parts y mo d h mi s us)
    unfolding moment_of
    moment_read = rw (the_time.hour_is, the_date.is, micros_read f us is.micros (e F.ms (lit< tt)) (e F.us (lit< tt))) checked
