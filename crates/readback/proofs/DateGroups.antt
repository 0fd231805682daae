-- What a date group sets makes the date that it was written from. Assumes nothing.
-- `date_read`: so for each of the three groups (`DateRead`).
use Rattle.std.specs.Prelude.{Ok}
use mathlib.Core.Path.{◌≡◌, refl, ◌∙◌, ap}
use mathlib.Core.Bool.{Bool, true, false}
use Prim.Native.Nat.{ℕ, ◌+◌, ◌-◌, ◌%◌, ◌<◌}
use native.Mathlib.Omega.{arith}
use borrow.Author.Tests.{lt-ltb, ltb-true, ltb-false, ne_eqb}
use lib.Dec.{ltb, lit<}
use lib.IntN.{ℤ, pos}
use Rattle.base_wrapping.proofs.Small.{wrap_pos, sub_pos}
use Rattle.calendar_gregorian.specs.Gregorian.{day_number, day_of_year, Valid}
use Rattle.calendar_gregorian.specs.IsoWeek.{iso_monday, iso_week, iso_weekday, iso_year}
use Rattle.calendar_gregorian.proofs.Dates.{real, first_to_last, length_range}
use Rattle.calendar_gregorian.proofs.Ordinal.{day_of_month, ordinal_range, ordinal_month}
use Rattle.calendar_gregorian.proofs.Weeks.{week_range, day_of_week_lem, year_range}
use Rattle.calendar_julian.specs.Week.{isoweek2j}
use Rattle.calendar_julian.proofs.Inverse.{j2date_is}
use Rattle.calendar_julian.proofs.IsoWeeks.{isoweek2j_is}
use Rattle.moment_date.specs.Dates.{year_bit, all_bits, days, begun, with_julian, day_of_week, with_week, with_day, with_month, from_day_of_year, with_day_of_year, dated_of}
use Rattle.read_fields.specs.Fields as F
use Rattle.read_fields.specs.declared.Fields.{Fields}
use Rattle.readback.proofs.GroupFields.{DateGroup, by_month, by_day, by_week, DateValues, date_values, TimeValues, fields_of, Same}
use Rattle.readback.proofs.FieldSteps.{year_read, begun_is, no_julian, no_week, no_day_of_year, after_weeks}

-- the fields make the date, with year, month and day set
pub record DateRead (f : Fields) (y m n : ℕ) : Type 0 where
  pub in_month : ℤ
  pub in_year : ℤ
  pub is : dated_of f ≡ Ok (days (pos y) (pos m) (pos n) all_bits in_month in_year)

-- the day of a week k days after its Monday, by its number from Sunday
weekday : (monday k : ℕ) → k < 7 → monday < 1000000000 → day_of_week (pos monday) (pos ((k + 1) % 7 + 1)) ≡ pos (monday + k)
weekday monday k h l = by (ltb k 6) refl
  where
    by : (t : Bool) → ltb k 6 ≡ t → day_of_week (pos monday) (pos ((k + 1) % 7 + 1)) ≡ pos (monday + k)
    by true p =
        let before_sunday = ltb-true k 6 p in
        let number : (k + 1) % 7 + 1 ≡ k + 2 = omega arith in
        rw (
          number,
          ne_eqb (k + 2) 0 (λ z. omega arith),
          lt-ltb 1 (k + 2) (omega arith),
          sub_pos (k + 2) 2 (omega arith),
          wrap_pos (k + 2 - 2) (omega arith),
          wrap_pos (monday + (k + 2 - 2)) (omega arith),
        )
        (ap pos (omega arith))
    by false p =
        let sunday : k ≡ 6 = omega (arith, ltb-false k 6 p) in
        rw (sunday, wrap_pos (monday + 6) (omega arith))

module _ {y m n : ℕ} (v : Valid y m n) (f : Fields) (b : TimeValues) (us : ℕ) where
  -- with a year but no week, the date begins as January 1 of the year
  from_january : (a : DateValues) → a.year ≡ y → a.ww ≡ 0 → Same f (fields_of a b us)
      → dated_of f ≡ with_day_of_year f (with_month f (with_day (days (pos y) (pos 1) (pos 1) year_bit (pos a.dd) (pos a.ddd))))
  from_january a year_is no_weeks e =
      let year = e F.year (lit< tt) ∙ ap pos year_is in
      let first = year_read f y v.year_from year (e F.cc (lit< tt)) (e F.bc (lit< tt)) in
      let january : with_week f (with_julian f (begun f (pos y))) ≡ Ok (days (pos y) (pos 1) (pos 1) year_bit (pos a.dd) (pos a.ddd)) =
      rw (begun_is f y v.year_from year, no_julian f _ (e F.j (lit< tt)), e F.dd (lit< tt), e F.ddd (lit< tt))
      (no_week f _ (e F.ww (lit< tt) ∙ ap pos no_weeks))
      in
      after_weeks f y _ first january (e F.w (lit< tt))

  -- YYYY MM DD
  month_day : Same f (fields_of (date_values by_month y m n) b us) → DateRead f y m n
  month_day e = record {
    in_month = pos n;
    in_year = pos 0;
    is =
        from_january (date_values by_month y m n) refl refl e
        ∙ rw (ne_eqb n 0 (λ z. omega arith), e F.mm (lit< tt), ne_eqb m 0 (λ z. omega arith))
        (no_day_of_year f (days (pos y) (pos m) (pos n) all_bits (pos n) (pos 0)) refl);
  }

  -- YYYY DDD: from the day of the year to the month and the day
  ordinal
      : from_day_of_year (days (pos y) (pos 1) (pos 1) year_bit (pos 0) (pos (day_of_year y m n)))
      ≡ days (pos y) (pos m) (pos n) all_bits (pos 0) (pos (day_of_year y m n))
  unfolding from_day_of_year
  ordinal = rw (ordinal_month v, day_of_month y m n, wrap_pos n (omega (arith, length_range y m v.month_from v.month_to)))

  year_day : Same f (fields_of (date_values by_day y m n) b us) → DateRead f y m n
  unfolding with_day_of_year
  year_day e = record {
    in_month = pos 0;
    in_year = pos (day_of_year y m n);
    is =
        from_january (date_values by_day y m n) refl refl e
        ∙ rw (
          e F.mm (lit< tt),
          ne_eqb (day_of_year y m n) 0 (λ z. omega (arith, ordinal_range v)),
          ne_eqb y 0 (λ z. omega arith),
          e F.mode (lit< tt),
          ordinal,
        );
  }

  -- IYYY IW ID: from the year, the week and the weekday to the day number, and from there to the date
  abbrev iso : ℕ
  iso = iso_year y m n

  abbrev week : ℕ
  week = iso_week y m n

  found : day_of_week (isoweek2j (pos iso) (pos week)) (pos (iso_weekday (day_number y m n) % 7 + 1)) ≡ pos (day_number y m n)
  found =
      rw (isoweek2j_is iso (omega (arith, year_range v)) week (week_range (real v)).0 (omega (arith, week_range (real v))))
      (weekday (iso_monday iso week) (day_number y m n % 7) (omega arith) (omega (arith, day_of_week_lem (real v), first_to_last v))
      ∙ ap pos (omega (arith, day_of_week_lem (real v))))

  week_day : Same f (fields_of (date_values by_week y m n) b us) → DateRead f y m n
  unfolding with_week
  week_day e =
      let date = days (pos y) (pos m) (pos n) all_bits (pos 0) (pos 0) in
      let first = year_read f iso (year_range v).0 (e F.year (lit< tt)) (e F.cc (lit< tt)) (e F.bc (lit< tt)) in
      let weeks : with_week f (with_julian f (begun f (pos iso))) ≡ Ok date =
      rw (
        begun_is f iso (year_range v).0 (e F.year (lit< tt)),
        no_julian f _ (e F.j (lit< tt)),
        e F.dd (lit< tt),
        e F.ddd (lit< tt),
        e F.ww (lit< tt),
        ne_eqb week 0 (λ z. omega (arith, week_range (real v))),
        e F.mode (lit< tt),
        e F.d (lit< tt),
        found,
        j2date_is v,
      )
      in
      record {
        in_month = pos 0;
        in_year = pos 0;
        is = after_weeks f iso date first weeks (e F.w (lit< tt)) ∙ rw (e F.mm (lit< tt)) (no_day_of_year f date refl);
      }

  pub date_read : (g : DateGroup) → Same f (fields_of (date_values g y m n) b us) → DateRead f y m n
  date_read by_month e = month_day e
  date_read by_day e = year_day e
  date_read by_week e = week_day e
