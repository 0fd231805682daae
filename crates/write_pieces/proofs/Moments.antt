-- The numbers of a moment are small and not negative, and PostgreSQL's calendar gives those of its date.
-- Assumes nothing.
-- `moment_plain`, `plain_moment`: seven numbers are a moment by the tests exactly if each is in its range.
-- `numbers`: each number of a moment is natural, below 2 ^ 31 and in its range, and its date is one of the calendar.
-- `dates`: so are the numbers that the calendar's functions give for the date.
-- `result`: and so is what a call returns, where its contract says that it is such a number.
-- `cast`, `value`: such a number may be cast to a u32, and keeps its value.
-- `morning`: the code's test of the hour is the definition's.
-- `named_month`: the month that the code casts to a u32 is the moment's, 1 to 12.
use mathlib.Core.Path.{◌≡◌, ◌∙◌, refl, ap}
use mathlib.Core.Bool.{Bool, true, not}
use Prim.Native.Nat.{ℕ, zero, suc, ◌-◌, ◌<◌, ◌≤◌, ◌^◌}
use native.Mathlib.Nat.{lt_of_not-le}
use native.Mathlib.Omega.{arith}
use borrow.Author.Tests.{le-ltb, not-true}
use lib.Dec.{T, leb}
use lib.IntN.{ℤ, pos, negsuc, nat_abs}
use lib.ListN.{get_or, get_or-eq_default}
use lib.Signed.{lt_z, non_neg}
use mir.Syntax.{Width, w32}
use mir.Val.{Fits, hbits, to_z, of_z}
use mir.Facts.{sfits_widen, to_z-of_z}
use Rattle.base_notation.proofs.Cases.{both}
use Rattle.base_wrapping.proofs.Fits.{read}
use Rattle.calendar_gregorian.specs.Civil.{day_of_year_ℤ, length_of, lengths_in}
use Rattle.calendar_gregorian.specs.Gregorian.{day_number, day_of_year, is_leap, leap, Valid}
use Rattle.calendar_gregorian.specs.IsoWeek.{iso_week, iso_year}
use Rattle.calendar_gregorian.proofs.Dates.{first_to_last, length_range, real}
use Rattle.calendar_gregorian.proofs.Ordinal.{ordinal, ordinal_range}
use Rattle.calendar_gregorian.proofs.Weeks.{week_range, year_range}
use Rattle.calendar_julian.specs.ToDay.{date2j}
use Rattle.calendar_julian.specs.Week.{date2isoweek, date2isoyear}
use Rattle.calendar_julian.proofs.DayNumber.{date2j_valid}
use Rattle.calendar_julian.proofs.IsoWeeks.{date2isoweek_is, date2isoyear_is}
use Rattle.moment_sums.specs.Within.{Within}
use Rattle.moment_sums.proofs.Within.{within as in_range}
use Rattle.write_pieces.specs.Moment.{is_moment, within, PlainMoment}
use Rattle.write_pieces.specs.Pieces.{is_morning}
use Rattle.write_pieces.specs.declared.Moment.{Moment}

-- the number z is n, and fits 31 bits
pub record Plain (z : ℤ) (n : ℕ) : Type 0 where
  pub is : z ≡ pos n
  pub small : n < 2 ^ 31

-- in 32 bits or more it is read back from its bits, and may be cast to a u32
module _ {z : ℤ} {n : ℕ} (p : Plain z n) (w : Width) (wide : T (leb (hbits w32) (hbits w))) where
  read_plain : to_z w (of_z w z) ≡ pos n
  read_plain = rw p.is (to_z-of_z (sfits_widen {w = w32} {w' = w} wide (record { sfits = p.small })))

  pub cast : T (non_neg (to_z w (of_z w z))) × Fits w32 (nat_abs (to_z w (of_z w z)))
  cast = rw read_plain (tt, omega (arith, p.small))

  pub value : nat_abs (to_z w (of_z w z)) ≡ n
  value = rw read_plain

-- from the test of a range to the range, and back
tested : (low high : ℕ) (z : ℤ) → within (pos low) (pos high) z ≡ true → Within low high z
tested low high z e =
    let tests = both (not (lt_z z (pos low))) _ e in
    in_range z (not-true _ tests.0) (not-true _ tests.1)

passed : {low high : ℕ} {z : ℤ} → Within low high z → within (pos low) (pos high) z ≡ true
passed {low} {high} w = rw (w.is, le-ltb w.at low w.from, le-ltb high w.at w.to)

-- a number in a range is natural, and in the range as such
natural : {low high : ℕ} {z : ℤ} → Within low high z → (z ≡ pos (nat_abs z)) × (low ≤ nat_abs z) × (nat_abs z ≤ high)
natural w = rw w.is (refl, w.from, w.to)

-- only the months 1 to 12 have a length
month_range : (in_leap : Bool) (m : ℤ) → 1 ≤ length_of in_leap m → Within 1 12 m
month_range in_leap (pos zero) h = absurd (omega arith)
month_range in_leap (pos (suc i)) h =
    let in_year : i < 12 = lt_of_not-le (λ k. omega (arith, get_or-eq_default (lengths_in in_leap) 0 {n = i} k)) in
    record { at = suc i; is = refl; from = omega arith; to = omega arith }
month_range in_leap (negsuc n) h = absurd (omega arith)

-- from the tests to the ranges, and back
pub moment_plain : (m : Moment) → is_moment m ≡ true → PlainMoment m
unfolding is_moment
moment_plain m e =
    let in_leap = is_leap (nat_abs m.year) in
    let year_test = both (within (pos 1) (pos 9999) m.year) _ e in
    let day_test = both (within (pos 1) (pos (length_of in_leap m.month)) m.day) _ year_test.1 in
    let hour_test = both (within (pos 0) (pos 23) m.hour) _ day_test.1 in
    let minute_test = both (within (pos 0) (pos 59) m.minute) _ hour_test.1 in
    let second_test = both (within (pos 0) (pos 59) m.second) _ minute_test.1 in
    let day = tested 1 (length_of in_leap m.month) m.day day_test.0 in
    record {
      year = tested 1 9999 m.year year_test.0;
      month = month_range in_leap m.month (omega (arith, day.from, day.to));
      day = day;
      hour = tested 0 23 m.hour hour_test.0;
      minute = tested 0 59 m.minute minute_test.0;
      second = tested 0 59 m.second second_test.0;
      micros = tested 0 999999 m.micros second_test.1;
    }

pub plain_moment : (m : Moment) → PlainMoment m → is_moment m ≡ true
unfolding is_moment
plain_moment m p =
    rw (passed p.year, passed p.day, passed p.hour, passed p.minute, passed p.second, passed p.micros)

-- the numbers of a moment
pub record Numbers (m : Moment) : Type 0 where
  pub year : Plain m.year (nat_abs m.year)
  pub month : Plain m.month (nat_abs m.month)
  pub day : Plain m.day (nat_abs m.day)
  pub hour : Plain m.hour (nat_abs m.hour)
  pub minute : Plain m.minute (nat_abs m.minute)
  pub second : Plain m.second (nat_abs m.second)
  pub micros : Plain m.micros (nat_abs m.micros)
  pub date : Valid (nat_abs m.year) (nat_abs m.month) (nat_abs m.day)
  pub hour_to : nat_abs m.hour ≤ 23
  pub minute_to : nat_abs m.minute ≤ 59
  pub second_to : nat_abs m.second ≤ 59
  pub micros_to : nat_abs m.micros ≤ 999999

-- the length of a month, by either table
length_is : (in_leap : Bool) (m : ℤ) → 1 ≤ nat_abs m → m ≡ pos (nat_abs m) → length_of in_leap m ≡ get_or (lengths_in in_leap) (nat_abs m - 1) 0
length_is in_leap (pos zero) h e = absurd (omega arith)
length_is in_leap (pos (suc i)) h e =
    let same : i ≡ suc i - 1 = omega arith in
    ap (λ (k : ℕ). get_or (lengths_in in_leap) k 0) same
length_is in_leap (negsuc n) h e = absurd (let z : ◌≡◌ {A = ℕ} 0 1 = cc in omega arith)

-- what each range of a moment gives
pub numbers : (m : Moment) → is_moment m ≡ true → Numbers m
unfolding leap
numbers m e =
    let is = moment_plain m e in
    let year = natural is.year in
    let month = natural is.month in
    let day = natural is.day in
    let hour = natural is.hour in
    let minute = natural is.minute in
    let second = natural is.second in
    let micros = natural is.micros in
    let date : Valid (nat_abs m.year) (nat_abs m.month) (nat_abs m.day) =
    record {
      year_from = year.1;
      year_to = year.2;
      month_from = month.1;
      month_to = month.2;
      day_from = day.1;
      day_to = omega (arith, length_is (is_leap (nat_abs m.year)) m.month month.1 month.0);
    } in
    let days = length_range (nat_abs m.year) (nat_abs m.month) month.1 month.2 in
    record {
      year = record { is = year.0; small = omega arith };
      month = record { is = month.0; small = omega arith };
      day = record { is = day.0; small = omega (arith, date.day_to) };
      hour = record { is = hour.0; small = omega arith };
      minute = record { is = minute.0; small = omega arith };
      second = record { is = second.0; small = omega arith };
      micros = record { is = micros.0; small = omega arith };
      date = date;
      hour_to = hour.2;
      minute_to = minute.2;
      second_to = second.2;
      micros_to = micros.2;
    }

-- what the calendar's functions give for a date, as they are called
pub record Dated (y m d : ℤ) (year month day : ℕ) : Type 0 where
  pub year_day : Plain (day_of_year_ℤ y m d) (day_of_year year month day)
  pub week_year : Plain (date2isoyear y m d) (iso_year year month day)
  pub week : Plain (date2isoweek y m d) (iso_week year month day)
  pub day_number_lem : Plain (date2j y m d) (day_number year month day)

dated : {y m d : ℤ} {year month day : ℕ} → y ≡ pos year → m ≡ pos month → d ≡ pos day → Valid year month day → Dated y m d year month day
dated {y} {m} {d} {year} {month} {day} a b c v =
    rw (a, b, c)
    (record {
      year_day = record { is = ordinal year month day; small = omega (arith, ordinal_range v) };
      week_year = record { is = date2isoyear_is v; small = omega (arith, year_range v) };
      week = record { is = date2isoweek_is v; small = omega (arith, week_range (real v)) };
      day_number_lem = record { is = date2j_valid v; small = omega (arith, first_to_last v) };
    })

pub dates : {m : Moment} → Numbers m → Dated (read m.year) (read m.month) (read m.day) (nat_abs m.year) (nat_abs m.month) (nat_abs m.day)
dates n = dated (read_plain n.year w32 tt) (read_plain n.month w32 tt) (read_plain n.day w32 tt) n.date

-- a call's result
pub result : {r z : ℤ} {n : ℕ} → r ≡ z → Plain z n → Plain r n
result e p = record { is = e ∙ p.is; small = p.small }

-- the test of the hour
pub morning : (m : Moment) → is_moment m ≡ true → lt_z (read m.hour) (pos 12) ≡ is_morning m
morning m e = rw (read_plain (numbers m e).hour w32 tt)

-- the month by which its name is chosen
pub named_month : (m : Moment) → is_moment m ≡ true
    → let month = nat_abs (read m.month) in (month ≡ nat_abs m.month) × (1 ≤ month) × (month ≤ 12)
named_month m e =
    let known = numbers m e in
    rw (value known.month w32 tt) (refl, known.date.month_from, known.date.month_to)
