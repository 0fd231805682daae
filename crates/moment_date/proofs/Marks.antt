-- A year that is not marked as set is 0, a month or a day is 1, and there are three marks. Assumes nothing.
-- `marked`: so it is with the date that the fields make, since each step keeps it.
use Rattle.std.specs.Prelude.{Err, Ok, Result}
use mathlib.Core.Path.{◌≡◌, refl, sym, ap}
use mathlib.Core.Bool.{Bool, true, false, not, ◌&&◌, false≢true}
use Prim.Native.Nat.{ℕ, ◌<◌}
use lib.Bits.{or_lt}
use lib.Dec.{lit<}
use lib.IntN.{ℤ, pos}
use Rattle.base_notation.proofs.Cases.{by_if}
use Rattle.calendar_julian.specs.ToDate.{j2date}
use Rattle.calendar_julian.specs.Week.{isoweek2j}
use Rattle.calendar_julian.specs.declared.Date.{Date as JulianDate}
use Rattle.template_patterns.specs.Patterns.{iso_week}
use Rattle.read_fields.specs.Fields.{get, is_zero, eq_ℤ, mode, d, year, ww, w, cc, j, mm}
use Rattle.read_fields.specs.declared.Fields.{Fields}
use Rattle.moment_date.specs.Dates.{year_bit, month_bit, day_bit, is_set, whole, year_mask, begun, with_julian, day_of_week, first_of_week, on_day_of_year, on_day_of_month, with_week, with_month_week, with_day, with_month, from_day_of_year, from_day_of_iso_year, counts_day_of_year, lacks_year, with_day_of_year, then_day_of_year, then_month_week, then_week, dated_of}
use Rattle.moment_year.specs.Year.{year_of}
use Rattle.moment_date.specs.declared.Days.{Days}
use Rattle.moment_date.proofs.Bits.{unset_before, unset_added}
use Rattle.base_refusals.specs.declared.Refusal.{Refusal}

-- what is not set is the year 0, January, the first of the month
pub record Marked (r : Days) : Type 0 where
  pub mask : r.set < 8
  pub year : is_set year_bit r.set ≡ false → r.year ≡ pos 0
  pub month : is_set month_bit r.set ≡ false → r.month ≡ pos 1
  pub day : is_set day_bit r.set ≡ false → r.day ≡ pos 1

-- of a date that was not refused
abbrev pub MarkedDate : Result Days Refusal → Type 0
MarkedDate (Ok r) = Marked r
MarkedDate (Err why) = Unit {0}

-- the number that was not refused
value_of : Result ℤ Refusal → ℤ
value_of (Ok z) = z
value_of (Err why) = pos 0

-- without a year and a century the year is 0
year_marked : (f : Fields) (y : ℤ) → year_of f ≡ Ok y → is_set year_bit (year_mask f) ≡ false → y ≡ pos 0
unfolding year_of value_of
year_marked f y is unset = split (is_zero (get f year)) (is_zero (get f cc)) refl refl
  where
    split : (a b : Bool) → is_zero (get f year) ≡ a → is_zero (get f cc) ≡ b → y ≡ pos 0
    split true true p q = sym (ap value_of (rw (p, q) at is))
    split true false p q = absurd (false≢true (sym (rw (p, q) at unset)))
    split false b p q = absurd (false≢true (sym (rw p at unset)))

-- at first, and after each step
begun_marked : (f : Fields) (y : ℤ) → year_of f ≡ Ok y → Marked (begun f y)
unfolding begun
begun_marked f y is = record {
  mask = by_if (λ (n : ℕ). n < 8) (is_zero (get f year) && is_zero (get f cc)) 0 year_bit (λ e. lit< tt) (λ e. lit< tt);
  year = year_marked f y is;
  month = λ e. refl;
  day = λ e. refl;
}

whole_marked : (a : JulianDate) (r : Days) → Marked (whole a r)
whole_marked a r = record {
  mask = lit< tt;
  year = λ e. absurd (false≢true (sym e));
  month = λ e. absurd (false≢true (sym e));
  day = λ e. absurd (false≢true (sym e));
}

julian_marked : (f : Fields) (r : Days) → Marked r → Marked (with_julian f r)
unfolding with_julian
julian_marked f r m = by_if Marked (is_zero (get f j)) r (whole (j2date (get f j)) r) (λ e. m) (λ e. whole_marked (j2date (get f j)) r)

day_of_year_marked : (r : Days) (v : Result ℤ Refusal) → Marked r → MarkedDate (on_day_of_year r v)
day_of_year_marked r (Ok n) m = record { mask = m.mask; year = m.year; month = m.month; day = m.day }
day_of_year_marked r (Err why) m = tt

day_of_month_marked : (r : Days) (v : Result ℤ Refusal) → Marked r → MarkedDate (on_day_of_month r v)
day_of_month_marked r (Ok n) m = record { mask = m.mask; year = m.year; month = m.month; day = m.day }
day_of_month_marked r (Err why) m = tt

week_marked : (f : Fields) (r : Days) → Marked r → MarkedDate (with_week f r)
unfolding with_week
week_marked f r m =
    by_if MarkedDate (is_zero (get f ww)) _ _ (λ e. m)
    (λ e. by_if MarkedDate (eq_ℤ (get f mode) (pos iso_week)) _ _
    (λ e. whole_marked (j2date (day_of_week (isoweek2j r.year (get f ww)) (get f d))) r)
    (λ e. day_of_year_marked r (first_of_week (get f ww)) m))

month_week_marked : (f : Fields) (r : Days) → Marked r → MarkedDate (with_month_week f r)
unfolding with_month_week
month_week_marked f r m =
    by_if MarkedDate (is_zero (get f w)) _ _ (λ e. m) (λ e. day_of_month_marked r (first_of_week (get f w)) m)

day_marked : (r : Days) → Marked r → Marked (with_day r)
day_marked r m =
    by_if Marked (is_zero r.dd) _ _ (λ e. m)
    (λ e. record {
      mask = or_lt 3 r.set day_bit m.mask (lit< tt);
      year = λ u. m.year (unset_before r.set day_bit year_bit (lit< tt) u);
      month = λ u. m.month (unset_before r.set day_bit month_bit (lit< tt) u);
      day = λ u. absurd (false≢true (sym (unset_added r.set day_bit day_bit (lit< tt) u)));
    })

month_marked : (f : Fields) (r : Days) → Marked r → Marked (with_month f r)
month_marked f r m =
    by_if Marked (is_zero (get f mm)) _ _ (λ e. m)
    (λ e. record {
      mask = or_lt 3 r.set month_bit m.mask (lit< tt);
      year = λ u. m.year (unset_before r.set month_bit year_bit (lit< tt) u);
      month = λ u. absurd (false≢true (sym (unset_added r.set month_bit month_bit (lit< tt) u)));
      day = λ u. m.day (unset_before r.set month_bit day_bit (lit< tt) u);
    })

both_marked : (r : Days) → Marked r → Marked (from_day_of_year r)
unfolding from_day_of_year
both_marked r m = record {
  mask = or_lt 3 r.set 6 m.mask (lit< tt);
  year = λ u. m.year (unset_before r.set 6 year_bit (lit< tt) u);
  month = λ u. absurd (false≢true (sym (unset_added r.set 6 month_bit (lit< tt) u)));
  day = λ u. absurd (false≢true (sym (unset_added r.set 6 day_bit (lit< tt) u)));
}

with_day_of_year_marked : (f : Fields) (r : Days) → Marked r → MarkedDate (with_day_of_year f r)
unfolding with_day_of_year
with_day_of_year_marked f r m =
    by_if MarkedDate (not (counts_day_of_year r)) _ _ (λ e. m)
    (λ e. by_if MarkedDate (lacks_year f r) _ _ (λ e. tt)
    (λ e. by_if MarkedDate (eq_ℤ (get f mode) (pos iso_week)) _ _ (λ e. whole_marked _ r) (λ e. both_marked r m)))

-- each step on what the one before left
then_day_of_year_lem : (f : Fields) (a : Result Days Refusal) → MarkedDate a → MarkedDate (then_day_of_year f a)
then_day_of_year_lem f (Err why) m = tt
then_day_of_year_lem f (Ok r) m = with_day_of_year_marked f (with_month f (with_day r)) (month_marked f (with_day r) (day_marked r m))

then_month_week_lem : (f : Fields) (a : Result Days Refusal) → MarkedDate a → MarkedDate (then_month_week f a)
then_month_week_lem f (Err why) m = tt
then_month_week_lem f (Ok r) m = then_day_of_year_lem f (with_month_week f r) (month_week_marked f r m)

then_week_lem : (f : Fields) (v : Result ℤ Refusal) → year_of f ≡ v → MarkedDate (then_week f v)
then_week_lem f (Err why) is = tt
then_week_lem f (Ok y) is =
    then_month_week_lem f (with_week f (with_julian f (begun f y)))
    (week_marked f (with_julian f (begun f y)) (julian_marked f (begun f y) (begun_marked f y is)))

pub marked : (f : Fields) → MarkedDate (dated_of f)
unfolding dated_of
marked f = then_week_lem f (year_of f) refl
