-- `j2day` is the weekday; `isoweek2j`, `date2isoweek` and `date2isoyear` are those of ISO 8601. Assumes nothing.
-- `j2day_is`: the weekday of a Julian day, with 0 for Sunday.
-- `isoweek2j_is`: the Monday of an ISO week, to the year 1000000. `week_one_is`: that of week 1.
-- `date2isoyear_is`, `date2isoweek_is`: the ISO year and week of a date of the years 1 to 9999.
use Rattle.std.proofs.Common.{◌≡◌, ℕ, ◌+◌, ◌-◌, ◌*◌, ◌/◌, ◌%◌, ◌<◌, ◌≤◌, Bool, true, false, ℤ, pos, refl, ap, ◌∙◌, arith, le-ltb, lt-ltb}
use lib.Signed.{lt_z}
use Rattle.base_notation.specs.Choice.{when◌then◌else◌}
use Rattle.base_wrapping.specs.Wrap.{◌⊖◌}
use Rattle.base_wrapping.proofs.Small.{wrap_pos, sub_pos}
use Rattle.calendar_gregorian.specs.Gregorian.{day_number, Valid}
use Rattle.calendar_gregorian.specs.IsoWeek.{iso_weekday, monday, iso_monday, iso_year, iso_week}
use Rattle.calendar_gregorian.proofs.Closed.{before_bound}
use Rattle.calendar_gregorian.proofs.Dates.{real, first_to_last}
use Rattle.calendar_gregorian.proofs.Weeks.{weeks, week_after, Side, before, within, after, side, in_iso_year, year_range}
use Rattle.calendar_julian.specs.Week.{j2day, week_one, isoweek2j, counted_from, week_of, week_year, date2isoweek, date2isoyear}
use Rattle.calendar_julian.proofs.DayNumber.{date2j_is, date2j_valid}

-- the weekday: Sunday, 7 by ISO 8601, is 0
pub j2day_is : (n : ℕ) → n < 2147483647 → j2day (pos n) ≡ pos (iso_weekday n % 7)
unfolding j2day
j2day_is n h = rw (wrap_pos (n + 1) (omega arith), le-ltb ((n + 1) % 7) 0 (omega arith)) (ap pos (omega arith))

-- the Monday of a day's week
monday_is : (n : ℕ) → 1 ≤ n → n < 2147483647 → pos n ⊖ j2day (pos n ⊖ pos 1) ≡ pos (monday n)
monday_is n h k =
    let yesterday : iso_weekday (n - 1) % 7 ≡ n % 7 = omega arith in
    rw (
      sub_pos n 1 h,
      wrap_pos (n - 1) (omega arith),
      j2day_is (n - 1) (omega arith),
      yesterday,
      sub_pos n (n % 7) (omega arith),
      wrap_pos (n - n % 7) (omega arith),
    )

module _ (y : ℕ) (to : y ≤ 1000000) where
  january4 : day_number y 1 4 ≤ 1000000000
  january4 = omega (arith, before_bound y)

  monday_lt : iso_monday y 1 ≤ 1000000000
  unfolding iso_monday
  monday_lt = omega (arith, january4)

  pub week_one_is : week_one (pos y) ≡ pos (iso_monday y 1)
  unfolding week_one iso_monday
  week_one_is =
      rw (date2j_is y 1 4 to (omega arith) (omega arith) (omega arith))
      (monday_is (day_number y 1 4) (omega arith) (omega (arith, january4)) ∙ ap pos (omega arith))

  pub isoweek2j_is : (w : ℕ) → 1 ≤ w → w ≤ 1000000 → isoweek2j (pos y) (pos w) ≡ pos (iso_monday y w)
  unfolding isoweek2j
  isoweek2j_is w h k =
      rw (
        sub_pos w 1 h,
        wrap_pos (w - 1) (omega arith),
        wrap_pos ((w - 1) * 7) (omega arith),
        week_one_is,
        wrap_pos ((w - 1) * 7 + iso_monday y 1) (omega (arith, monday_lt)),
      ) (ap pos (omega (arith, week_after y w)))

  -- the week of a day, from week 1 on
  week_of_is : (j : ℕ) → iso_monday y 1 ≤ j → j < 2147483648 → week_of (pos j) (pos y) ≡ pos ((j - iso_monday y 1) / 7 + 1)
  unfolding week_of
  week_of_is j h k = rw (week_one_is, sub_pos j (iso_monday y 1) h, wrap_pos (j - iso_monday y 1) (omega arith))

  -- the year that a day is counted from
  from_year : (j : ℕ) → iso_monday y 1 ≤ j → counted_from (pos j) (pos y) ≡ pos y
  unfolding counted_from
  from_year j h = rw (week_one_is, le-ltb j (iso_monday y 1) h)

  from_before : (j : ℕ) → 1 ≤ y → j < iso_monday y 1 → counted_from (pos j) (pos y) ≡ pos (y - 1)
  unfolding counted_from
  from_before j f h = rw (week_one_is, lt-ltb j (iso_monday y 1) h, sub_pos y 1 f, wrap_pos (y - 1) (omega arith))

-- a day before week 1 of the next year, whatever its week
not_yet : (j k : ℕ) (from : ℤ) → k ≤ 1000000 → j < iso_monday k 1 → week_year (pos j) from (pos k) ≡ from
unfolding week_year
not_yet j k from h l = rw (week_one_is k h, lt-ltb j (iso_monday k 1) l) (either_way (lt_z (week_of (pos j) from) (pos 52)))
  where
    either_way : (t : Bool) → (when t then from else from) ≡ from
    either_way true = refl
    either_way false = refl

-- a day of week 1 of the next year or later, which is past week 51
reached : (j k : ℕ) → k ≤ 999999 → j < 2147483648 → iso_monday (k + 1) 1 ≤ j → week_year (pos j) (pos k) (pos (k + 1)) ≡ pos (k + 1)
unfolding week_year
reached j k h f l =
    let past_51 : 52 ≤ (j - iso_monday k 1) / 7 + 1 = omega (arith, weeks k) in
    rw (
      week_of_is k (omega arith) j (omega (arith, weeks k)) f,
      le-ltb ((j - iso_monday k 1) / 7 + 1) 52 past_51,
      week_one_is (k + 1) (omega arith),
      le-ltb j (iso_monday (k + 1) 1) l,
    )

-- k is the year that the day j is counted from, in a date of the year y.
-- The ISO year z is found by the year after k, as `date2isoyear` does, and by the year after y, as `date2isoweek` does
record Counted (j y z : ℕ) : Type 0 where
  k : ℕ
  to : k ≤ 9999
  from : counted_from (pos j) (pos y) ≡ pos k
  after_k : week_year (pos j) (pos k) (pos (k + 1)) ≡ pos z
  after_y : week_year (pos j) (pos k) (pos (y + 1)) ≡ pos z

module _ {y m d : ℕ} (v : Valid y m d) where
  day_lt : day_number y m d < 2147483648
  day_lt = omega (arith, first_to_last v)

  counted : Side y m d → Counted (day_number y m d) y (iso_year y m d)
  counted (before h e) =
      let back : y - 1 + 1 ≡ y = omega arith in
      rw e
      (record {
        k = y - 1;
        to = omega arith;
        from = from_before y (omega arith) (day_number y m d) v.year_from h;
        after_k = not_yet (day_number y m d) (y - 1 + 1) (pos (y - 1)) (omega arith) (rw back h);
        after_y = not_yet (day_number y m d) (y + 1) (pos (y - 1)) (omega arith) (omega (arith, weeks y));
      })
  counted (within h l e) =
      let in_year = not_yet (day_number y m d) (y + 1) (pos y) (omega arith) l in
      rw e (record { k = y; to = v.year_to; from = from_year y (omega arith) (day_number y m d) h; after_k = in_year; after_y = in_year })
  counted (after h e) =
      let from_y = from_year y (omega arith) (day_number y m d) (omega (arith, weeks y)) in
      let next_year = reached (day_number y m d) y (omega arith) day_lt h in
      rw e (record { k = y; to = v.year_to; from = from_y; after_k = next_year; after_y = next_year })

  pub date2isoyear_is : date2isoyear (pos y) (pos m) (pos d) ≡ pos (iso_year y m d)
  unfolding date2isoyear
  date2isoyear_is =
      let year = counted (side y m d) in
      rw (date2j_valid v, year.from, wrap_pos (year.k + 1) (omega arith)) year.after_k

  pub date2isoweek_is : date2isoweek (pos y) (pos m) (pos d) ≡ pos (iso_week y m d)
  unfolding date2isoweek iso_week
  date2isoweek_is =
      let year = counted (side y m d) in
      rw (date2j_valid v, year.from, wrap_pos (y + 1) (omega arith), year.after_y)
      (week_of_is (iso_year y m d) (omega (arith, year_range v)) (day_number y m d) (in_iso_year (real v)).from day_lt)
