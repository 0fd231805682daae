-- The moment of plain fields in range. From the definitions alone; assumes nothing.
-- `plain_moment`: it is that of year, month, day, hour, minute, second and microsecond as they were read, with the first
-- of the year or the month where a month or a day is absent, without an offset; the strict switch does not change it.
use Rattle.std.specs.Prelude.{None, Ok}
use mathlib.Core.Path.{◌≡◌, refl, sym, ap}
use mathlib.Core.Bool.{Bool, true, false, not, ◌&&◌, false≢true}
use mathlib.Core.List.{[], ◌∷◌}
use Prim.Native.Nat.{ℕ, ◌+◌, ◌%◌, ◌≤◌, ◌^◌}
use native.Mathlib.Omega.{arith}
use borrow.Author.Tests.{le-ltb, ltb-false, ne_eqb}
use lib.IntN.{ℤ, pos, negsuc, nat_abs}
use lib.Dec.{eqb}
use lib.Signed.{lt_z}
use mir.Facts.{to_z_pos}
use mir.Syntax.{w32}
use Rattle.calendar_gregorian.specs.Civil.{length_of, month_of}
use Rattle.calendar_gregorian.specs.Gregorian.{is_leap}
use Rattle.calendar_gregorian.proofs.Dates.{each}
use Rattle.calendar_gregorian.proofs.Months.{of_twelve}
use Rattle.base_notation.specs.Choice.{when◌then◌else◌}
use Rattle.base_notation.proofs.Cases.{both}
use Rattle.base_wrapping.specs.Wrap.{wrap32, ◌⊕◌}
use Rattle.read_fields.specs.Fields.{get, is_zero, hh, mi, ss, ssss, dd, ddd, mm, ms, year, bc, ww, w, cc, j, us, clock, tzsign}
use Rattle.read_fields.specs.declared.Fields.{Fields}
use Rattle.moment_date.specs.Dates.{days, begun, with_julian, with_week, with_month_week, with_day_of_year, dated_of, date_in_range, no_such_day}
use Rattle.moment_date.specs.declared.Days.{Days}
use Rattle.moment_sums.specs.Within.{Within, below}
use Rattle.moment_sums.proofs.Tests.{failed}
use Rattle.moment_sums.proofs.Within.{from_zero, within}
use Rattle.moment_time.specs.Time.{◌or◌, hour_of, minute_of, second_of, clock_hour, micros_of, time_in_range, offset_of, offset_in_range, checked_offset}
use Rattle.moment_year.specs.Year.{year_of}
use Rattle.moment_parts.specs.Parts.{checked_moment, moment_of}
use Rattle.moment_parts.specs.Plain.{is_plain, or_first, plain_marks, has_day, has_plain_moment, plain_parts}
use Rattle.moment_parts.proofs.Absent.{zero_is, zeros}

-- the fields of other steps are 0
record Plain (f : Fields) : Type 0 where
  j_is : get f j ≡ pos 0
  ww_is : get f ww ≡ pos 0
  w_is : get f w ≡ pos 0
  ddd_is : get f ddd ≡ pos 0
  cc_is : get f cc ≡ pos 0
  bc_is : get f bc ≡ pos 0
  clock_is : get f clock ≡ pos 0
  ssss_is : get f ssss ≡ pos 0
  ms_is : get f ms ≡ pos 0
  tzsign_is : get f tzsign ≡ pos 0

plain : (f : Fields) → is_plain f ≡ true → Plain f
unfolding is_plain
plain f e =
    let z = zeros f (j ∷ ww ∷ w ∷ ddd ∷ cc ∷ bc ∷ clock ∷ ssss ∷ ms ∷ tzsign ∷ []) e in
    record {
      j_is = z.0;
      ww_is = z.1.0;
      w_is = z.1.1.0;
      ddd_is = z.1.1.1.0;
      cc_is = z.1.1.1.1.0;
      bc_is = z.1.1.1.1.1.0;
      clock_is = z.1.1.1.1.1.1.0;
      ssss_is = z.1.1.1.1.1.1.1.0;
      ms_is = z.1.1.1.1.1.1.1.1.0;
      tzsign_is = z.1.1.1.1.1.1.1.1.1.0;
    }

-- a field, or 0 where it is 0
or_zero : (z : ℤ) → (z or pos 0) ≡ z
or_zero z = split (is_zero z) refl
  where
    split : (b : Bool) → is_zero z ≡ b → (when b then pos 0 else z) ≡ z
    split true e = sym (zero_is z e)
    split false e = refl

-- microseconds in range do not wrap
small_sum : (n : ℕ) → n ≤ 999999 → (pos 0 ⊕ pos n) ≡ pos n
unfolding wrap32
small_sum n h = let same : (0 + n) % 2 ^ 32 ≡ n = omega arith in rw same (to_z_pos w32 {n = n} (omega arith))

-- what is marked with a year is no day without one
with_year : (m n month day : ℤ) → no_such_day (plain_marks m n) month day ≡ false
unfolding no_such_day plain_marks
with_year m n month day = split (is_zero m) (is_zero n)
  where
    split : (a b : Bool)
        → (eqb (when a then (when b then 1 else 5) else when b then 3 else 7) 6 && lt_z (pos (length_of true month)) day) ≡ false
    split true true = refl
    split true false = refl
    split false true = refl
    split false false = refl

-- a number above 0
record Above (z : ℤ) : Type 0 where
  at : ℕ
  is : z ≡ pos at
  from : 1 ≤ at

above : (z : ℤ) → not (lt_z z (pos 1)) ≡ true → Above z
above (pos n) e = record { at = n; is = refl; from = ltb-false n 1 (failed _ e) }
above (negsuc n) e = absurd (false≢true e)

-- microseconds that are in range with their time
in_second : (f : Fields) → time_in_range (get f hh) (get f mi) (get f ss) (get f us) ≡ true → Within 0 999999 (get f us)
unfolding time_in_range
in_second f e = from_zero (get f us) (both (below (get f hh) 24 && below (get f mi) 60 && below (get f ss) 60) (below (get f us) 1000000) e).1

and-false : (b : Bool) → (b && false) ≡ false
and-false true = refl
and-false false = refl

-- the date, with its marks
abbrev plain_date : Fields → Days
plain_date f = days (get f year) (or_first (get f mm)) (or_first (get f dd)) (plain_marks (get f mm) (get f dd)) (get f dd) (get f ddd)

module _ (f : Fields) (p : Plain f) where
  hour_is : clock_hour f ≡ Ok (get f hh)
  unfolding clock_hour hour_of
  hour_is = rw (p.clock_is, p.ssss_is) (ap Ok (or_zero (get f hh)))

  minute_is : minute_of f ≡ get f mi
  unfolding minute_of
  minute_is = rw p.ssss_is (or_zero (get f mi))

  second_is : second_of f ≡ get f ss
  unfolding second_of
  second_is = rw p.ssss_is (or_zero (get f ss))

  micros_is : Within 0 999999 (get f us) → micros_of f ≡ Ok (get f us)
  unfolding micros_of
  micros_is h = rw (p.ms_is, h.is) (ap Ok (small_sum h.at h.to))

  offset_is : checked_offset f ≡ Ok None
  unfolding checked_offset offset_in_range offset_of
  offset_is = rw p.tzsign_is

  -- a year above 0
  module _ (y : Above (get f year)) where
    year_is : year_of f ≡ Ok (get f year)
    unfolding year_of
    year_is = rw (p.cc_is, p.bc_is, y.is, ne_eqb y.at 0 (λ e. omega (arith, e, y.from)), le-ltb y.at 0 (omega arith))

    not_absent : is_zero (get f year) ≡ false
    not_absent = rw y.is (ne_eqb y.at 0 (λ e. omega (arith, e, y.from)))

    date_by : (a b : Bool) → is_zero (get f mm) ≡ a → is_zero (get f dd) ≡ b → dated_of f ≡ Ok (plain_date f)
    unfolding dated_of begun with_julian with_week with_month_week with_day_of_year or_first plain_marks
    date_by true true u v = simp (year_is, not_absent, p.j_is, p.ww_is, p.w_is, p.ddd_is, u, v)
    date_by true false u v = simp (year_is, not_absent, p.j_is, p.ww_is, p.w_is, p.ddd_is, u, v)
    date_by false true u v = simp (year_is, not_absent, p.j_is, p.ww_is, p.w_is, p.ddd_is, u, v)
    date_by false false u v = simp (year_is, not_absent, p.j_is, p.ww_is, p.w_is, p.ddd_is, u, v)

    date_is : dated_of f ≡ Ok (plain_date f)
    date_is = date_by (is_zero (get f mm)) (is_zero (get f dd)) refl refl

-- a month from 1 to 12, by its tests; none has more than 31 days
of_year : (z : ℤ) → 1 ≤ month_of z → month_of z ≤ 12 → (lt_z z (pos 1) ≡ false) × (lt_z (pos 12) z ≡ false)
of_year (pos m) h l = (le-ltb m 1 h, le-ltb 12 m l)
of_year (negsuc m) h l = absurd (omega arith)

most : (in_leap : Bool) (z : ℤ) → 1 ≤ month_of z → month_of z ≤ 12 → length_of in_leap z ≤ 31
most true (pos m) h l = each (λ m. length_of true (pos m) ≤ 31) 1 11 (omega arith) m h l
most false (pos m) h l = each (λ m. length_of false (pos m) ≤ 31) 1 11 (omega arith) m h l
most in_leap (negsuc m) h l = absurd (omega arith)

-- a day that its month has is in range, whatever is marked
module _ (y m n : ℤ) (has : has_day y m n ≡ true) where
  tests : (lt_z n (pos 1) ≡ false) × (lt_z (pos (length_of (is_leap (nat_abs y)) m)) n ≡ false)
  unfolding has_day
  tests = let two = both (not (lt_z n (pos 1))) _ has in (failed _ two.0, failed _ two.1)

  day_within : Within 1 (length_of (is_leap (nat_abs y)) m) n
  day_within = within n tests.0 tests.1

  month_within : (1 ≤ month_of m) × (month_of m ≤ 12)
  month_within = of_twelve (is_leap (nat_abs y)) m (omega (arith, day_within.from, day_within.to))

  at_most : lt_z (pos 31) n ≡ false
  at_most =
      rw day_within.is (le-ltb 31 day_within.at (omega (arith, day_within.to, most (is_leap (nat_abs y)) m month_within.0 month_within.1)))

  in_range : (set : ℕ) (in_month in_year : ℤ) → date_in_range (days y m n set in_month in_year) ≡ true
  unfolding date_in_range
  in_range set in_month in_year =
      let month_tests = of_year m month_within.0 month_within.1 in
      simp (month_tests.0, month_tests.1, tests.0, tests.1, at_most, and-false)

pub plain_moment : (strict : Bool) (f : Fields) → has_plain_moment f ≡ true → moment_of strict f ≡ Ok (plain_parts f)
unfolding has_plain_moment moment_of checked_moment plain_parts
plain_moment strict f e =
    let plain_test = both (is_plain f) _ e in
    let year_test = both (not (lt_z (get f year) (pos 1))) _ plain_test.1 in
    let range_tests = both (has_day (get f year) (or_first (get f mm)) (or_first (get f dd))) (time_in_range (get f hh) (get f mi) (get f ss) (get f us)) year_test.1 in
    let p = plain f plain_test.0 in
    simp (
      hour_is f p,
      date_is f p (above (get f year) year_test.0),
      micros_is f p (in_second f range_tests.1),
      minute_is f p,
      second_is f p,
      offset_is f p,
      in_range _ _ _ range_tests.0 (plain_marks (get f mm) (get f dd)) (get f dd) (get f ddd),
      range_tests.1,
      with_year (get f mm) (get f dd) (or_first (get f mm)) (or_first (get f dd)),
      and-false strict,
    )
