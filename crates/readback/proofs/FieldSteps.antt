-- The steps by which fields make a moment, where few of them are set. Assumes nothing.
-- `year_read`: a year is taken as it is, with no century and not before Christ.
-- `begun_is`: the date begins as January 1 of the year.
-- `no_julian`, `no_week`, `no_day_of_year`: no Julian day, week or day of the year changes it.
-- `after_weeks`: the date, once the year and what the weeks make of it are known.
-- `micros_read`: microseconds are taken as they are, with no milliseconds. `no_offset`: there is no offset.
use Rattle.std.specs.Prelude.{None, Ok}
use mathlib.Core.Path.{◌≡◌}
use Prim.Native.Nat.{ℕ, ◌≤◌, ◌<◌}
use native.Mathlib.Nat.{zero-add}
use native.Mathlib.Omega.{arith}
use borrow.Author.Tests.{le-ltb, ne_eqb}
use lib.IntN.{pos}
use Rattle.base_wrapping.proofs.Small.{wrap_pos}
use Rattle.moment_date.specs.Dates.{year_bit, days, begun, with_julian, with_week, with_month_week, with_day, with_month, with_day_of_year, dated_of}
use Rattle.moment_time.specs.Time.{micros_of, offset_of, offset_in_range, checked_offset}
use Rattle.moment_year.specs.Year.{year_of}
use Rattle.moment_date.specs.declared.Days.{Days}
use Rattle.read_fields.specs.Fields as F
use Rattle.read_fields.specs.declared.Fields.{Fields}

module _ (f : Fields) where
  module _ (y : ℕ) (from : 1 ≤ y) (e : F.get f F.year ≡ pos y) where
    pub year_read : F.get f F.cc ≡ pos 0 → F.get f F.bc ≡ pos 0 → year_of f ≡ Ok (pos y)
    unfolding year_of
    year_read c b = rw (e, c, b, ne_eqb y 0 (λ z. omega arith), le-ltb y 0 (omega arith))

    pub begun_is : begun f (pos y) ≡ days (pos y) (pos 1) (pos 1) year_bit (F.get f F.dd) (F.get f F.ddd)
    unfolding begun
    begun_is = rw (e, ne_eqb y 0 (λ z. omega arith))

  module _ (r : Days) where
    pub no_julian : F.get f F.j ≡ pos 0 → with_julian f r ≡ r
    unfolding with_julian
    no_julian e = rw e

    pub no_week : F.get f F.ww ≡ pos 0 → with_week f r ≡ Ok r
    unfolding with_week
    no_week e = rw e

    no_month_week : F.get f F.w ≡ pos 0 → with_month_week f r ≡ Ok r
    unfolding with_month_week
    no_month_week e = rw e

    pub no_day_of_year : r.ddd ≡ pos 0 → with_day_of_year f r ≡ Ok r
    unfolding with_day_of_year
    no_day_of_year e = rw e

  pub after_weeks : (first : ℕ) (r : Days) → year_of f ≡ Ok (pos first) → with_week f (with_julian f (begun f (pos first))) ≡ Ok r
      → F.get f F.w ≡ pos 0 → dated_of f ≡ with_day_of_year f (with_month f (with_day r))
  unfolding dated_of
  after_weeks first r e w k = rw (e, w, no_month_week r k)

  pub micros_read : (n : ℕ) → n < 1000000 → F.get f F.ms ≡ pos 0 → F.get f F.us ≡ pos n → micros_of f ≡ Ok (pos n)
  unfolding micros_of
  micros_read n h e k = rw (e, k, zero-add, wrap_pos n (omega arith))

  pub no_offset : F.get f F.tzsign ≡ pos 0 → checked_offset f ≡ Ok None
  unfolding checked_offset offset_in_range offset_of
  no_offset e = rw e
