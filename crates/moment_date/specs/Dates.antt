-- The date, from the year and the fields that were read, and which of year, month and day are set.
use Rattle.std.specs.Prelude.{◌≡◌, refl, Bool, true, false, not, ◌&&◌, ◌||◌, ℕ, ◌+◌, eqb, ℤ, pos, negsuc, nat_abs, Err, Ok, Result}
use Rattle.std.specs.Int.Bits.{bit_and, bit_or}
use Rattle.std.specs.Int.Signed.{lt_z, le_z}
use Rattle.base_notation.specs.Choice.{when◌then◌else◌}
use Rattle.base_refusals.specs.declared.Refusal.TheVariants.{NoYear}
use Rattle.calendar_gregorian.specs.Civil.{days_before, ended_before, length_of, month_of_day}
use Rattle.calendar_gregorian.specs.Gregorian.{is_leap}
use Rattle.calendar_julian.specs.ToDate.{shifted, with_skipped, day_from_march, j2date}
use Rattle.calendar_julian.specs.ToDay.{from_march, date2j}
use Rattle.calendar_julian.specs.Week.{j2day, week_one, isoweek2j}
use Rattle.calendar_julian.specs.declared.Date.{Date}
use Rattle.template_patterns.specs.Patterns.{iso_week}
use Rattle.read_fields.specs.Fields.{get, is_zero, eq_ℤ, mode, d, dd, ddd, mm, year, bc, ww, w, cc, j}
use Rattle.read_fields.specs.declared.Fields.{Fields}
use Rattle.base_wrapping.specs.Wrap.{◌⊕◌, ◌⊖◌}
use Rattle.moment_sums.specs.Checked.{◌plus◌, ◌times◌}
use Rattle.moment_year.specs.Year.{year_of, year_computes}
use Rattle.moment_date.specs.declared.Days.{Days}
use Rattle.base_refusals.specs.declared.Refusal.{Refusal}

-- the bits of what is set
abbrev pub year_bit : ℕ
year_bit = 1

abbrev pub month_bit : ℕ
month_bit = 2

abbrev pub day_bit : ℕ
day_bit = 4

abbrev pub all_bits : ℕ
all_bits = 7

abbrev pub is_set : ℕ → ℕ → Bool
is_set bit set = not (eqb (bit_and set bit) 0)

abbrev pub days : ℤ → ℤ → ℤ → ℕ → ℤ → ℤ → Days
days y m n set in_month in_year = record { year = y; month = m; day = n; set = set; dd = in_month; ddd = in_year }

-- a whole date from a Julian day
abbrev pub whole : Date → Days → Days
whole a r = days a.year a.month a.day all_bits r.dd r.ddd

-- the year is set where a year or a century was read
abbrev pub year_mask : Fields → ℕ
year_mask f = when is_zero (get f year) && is_zero (get f cc) then 0 else year_bit

-- at first: the year, January 1, the day of the month and of the year as they were read
unfoldable pub begun : Fields → ℤ → Days
begun f y = days y (pos 1) (pos 1) (year_mask f) (get f dd) (get f ddd)

-- a Julian day gives the date
unfoldable pub with_julian : Fields → Days → Days
with_julian f r = when is_zero (get f j) then r else whole (j2date (get f j)) r

-- the day of an ISO week: Monday if no weekday was read; Sunday is 1, Monday 2
abbrev pub day_of_week : ℤ → ℤ → ℤ
day_of_week monday n = when is_zero n then monday else when lt_z (pos 1) n then monday ⊕ (n ⊖ pos 2) else monday ⊕ pos 6

-- the first day of week n, counted from day 1
unfoldable pub first_of_week : ℤ → Result ℤ Refusal
first_of_week n = Ok n plus negsuc 0 times 7 plus pos 1

-- such a day as the day of the year, and as the day of the month
abbrev pub on_day_of_year : Days → Result ℤ Refusal → Result Days Refusal
on_day_of_year r (Ok n) = Ok (days r.year r.month r.day r.set r.dd n)
on_day_of_year r (Err why) = Err why

abbrev pub on_day_of_month : Days → Result ℤ Refusal → Result Days Refusal
on_day_of_month r (Ok n) = Ok (days r.year r.month r.day r.set n r.ddd)
on_day_of_month r (Err why) = Err why

-- a week of the year: of the ISO year it gives the date, else the day of the year
unfoldable pub with_week : Fields → Days → Result Days Refusal
with_week f r =
    when is_zero (get f ww) then Ok r
    else when eq_ℤ (get f mode) (pos iso_week) then Ok (whole (j2date (day_of_week (isoweek2j r.year (get f ww)) (get f d))) r)
    else on_day_of_year r (first_of_week (get f ww))

-- a week of the month gives the day of the month
unfoldable pub with_month_week : Fields → Days → Result Days Refusal
with_month_week f r = when is_zero (get f w) then Ok r else on_day_of_month r (first_of_week (get f w))

-- the day of the month and the month
abbrev pub with_day : Days → Days
with_day r = when is_zero r.dd then r else days r.year r.month r.dd (bit_or r.set day_bit) r.dd r.ddd

abbrev pub with_month : Fields → Days → Days
with_month f r = when is_zero (get f mm) then r else days r.year (get f mm) r.day (bit_or r.set month_bit) r.dd r.ddd

-- a month or day above 1 stays, any other is replaced
abbrev pub above_one : ℤ → ℤ → ℤ
above_one z other = when le_z z (pos 1) then other else z

-- month and day from the day of a Gregorian year
unfoldable pub from_day_of_year : Days → Days
from_day_of_year r =
    let in_leap = is_leap (nat_abs r.year) in
    let m = pos (month_of_day in_leap r.ddd) in
    let n = r.ddd ⊖ pos (days_before in_leap m) in
    days r.year (above_one r.month m) (above_one r.day n) (bit_or r.set (bit_or month_bit day_bit)) r.dd r.ddd

-- the date of a day of an ISO year
abbrev pub from_day_of_iso_year : Days → Days
from_day_of_iso_year r = whole (j2date (isoweek2j r.year (pos 1) ⊖ pos 1 ⊕ r.ddd)) r

-- the day of the year counts where month or day is not above 1
abbrev pub counts_day_of_year : Days → Bool
counts_day_of_year r = not (is_zero r.ddd) && (le_z r.month (pos 1) || le_z r.day (pos 1))

-- it needs a year: one that is not 0, or BC
abbrev pub lacks_year : Fields → Days → Bool
lacks_year f r = is_zero r.year && is_zero (get f bc)

unfoldable pub with_day_of_year : Fields → Days → Result Days Refusal
with_day_of_year f r =
    when not (counts_day_of_year r) then Ok r
    else when lacks_year f r then Err NoYear
    else when eq_ℤ (get f mode) (pos iso_week) then Ok (from_day_of_iso_year r)
    else Ok (from_day_of_year r)

-- the date that the fields make, each step refused in this order: the year, a Julian day, weeks, the day and the month,
-- the day of the year
abbrev pub then_day_of_year : Fields → Result Days Refusal → Result Days Refusal
then_day_of_year f (Err why) = Err why
then_day_of_year f (Ok r) = with_day_of_year f (with_month f (with_day r))

abbrev pub then_month_week : Fields → Result Days Refusal → Result Days Refusal
then_month_week f (Err why) = Err why
then_month_week f (Ok r) = then_day_of_year f (with_month_week f r)

abbrev pub then_week : Fields → Result ℤ Refusal → Result Days Refusal
then_week f (Err why) = Err why
then_week f (Ok y) = then_month_week f (with_week f (with_julian f (begun f y)))

unfoldable pub dated_of : Fields → Result Days Refusal
dated_of f = then_week f (year_of f)

-- a number outside its range
abbrev pub outside : ℤ → ℤ → ℤ → Bool
outside z low high = lt_z z low || lt_z high z

-- a month or day that is set lies from 1 to its limit
abbrev pub part_in_range : ℕ → ℕ → ℤ → ℤ → Bool
part_in_range set bit z high = not (is_set bit set && outside z (pos 1) high)

-- where year, month and day are all set the month has the day
abbrev pub day_in_month : Days → Bool
day_in_month r = not (eqb r.set all_bits && lt_z (pos (length_of (is_leap (nat_abs r.year)) r.month)) r.day)

unfoldable pub date_in_range : Days → Bool
date_in_range r = part_in_range r.set month_bit r.month (pos 12) && (part_in_range r.set day_bit r.day (pos 31) && day_in_month r)

-- month and day are set, the year is not, and the month never has the day: not even in a leap year
unfoldable pub no_such_day : ℕ → ℤ → ℤ → Bool
no_such_day set m n = eqb set (bit_or month_bit day_bit) && lt_z (pos (length_of true m)) n

-- unfolds all that a date is computed by, for worked examples
unfoldable pub date_computes : ℕ
unfolding begun with_julian first_of_week with_week with_month_week from_day_of_year with_day_of_year dated_of date_in_range no_such_day year_computes days_before ended_before month_of_day shifted with_skipped day_from_march j2date from_march date2j j2day week_one isoweek2j
date_computes = 0

-- without a year February has 30 days; 2023 with its month and day set, and day 60 of it
pub worked
    : (date_in_range (days (pos 0) (pos 2) (pos 30) 6 (pos 30) (pos 0)) ≡ true)
    × (date_in_range (days (pos 2023) (pos 2) (pos 29) 7 (pos 29) (pos 0)) ≡ false)
    × (from_day_of_year (days (pos 2023) (pos 1) (pos 1) 1 (pos 0) (pos 60)) ≡ days (pos 2023) (pos 3) (pos 1) 7 (pos 0) (pos 60))
unfolding date_computes
worked = (refl, refl, refl)

-- February 30 and April 31 are never there, February 29 and March 31 are; with a year or without a month none is asked
pub never
    : (no_such_day 6 (pos 2) (pos 30) ≡ true) × (no_such_day 6 (pos 4) (pos 31) ≡ true)
    × (no_such_day 6 (pos 2) (pos 29) ≡ false) × (no_such_day 6 (pos 3) (pos 31) ≡ false)
    × (no_such_day 7 (pos 2) (pos 30) ≡ false) × (no_such_day 4 (pos 2) (pos 30) ≡ false)
unfolding no_such_day
never = (refl, refl, refl, refl, refl, refl)
