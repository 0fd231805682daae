-- The ISO year, week and weekday of a date, and the date back from them. Assumes nothing.
-- `day_of_week_lem`: the day of a date's ISO year, week and weekday is the date's.
-- `week_range`: a week is 1 to 53. `year_range`: the ISO years of the years 1 to 9999 are the same.
-- `weeks`: an ISO year has 52 or 53 weeks. `week_after`: week w begins w - 1 weeks after week 1.
-- `side`: a date is in the ISO year before, of or after its own year. `in_iso_year`: it is within its ISO year.
-- `first_thursday`: week 1 has the year's first Thursday.
use mathlib.Core.Path.{◌≡◌, refl}
use mathlib.Core.Bool.{Bool, true, false}
use Prim.Native.Nat.{ℕ, ◌+◌, ◌-◌, ◌*◌, ◌/◌, ◌%◌, ◌≤◌, ◌<◌}
use native.Mathlib.Nat.{lt_of_not-le}
use native.Mathlib.Omega.{arith}
use borrow.Author.Tests.{ltb-true, ltb-false}
use lib.Dec.{ltb}
use Rattle.calendar_gregorian.specs.Gregorian.{day_number, Valid}
use Rattle.calendar_gregorian.specs.IsoWeek.{iso_weekday, iso_monday, iso_year, iso_week}
use Rattle.calendar_gregorian.proofs.Closed.{leap-le, closed, next_year}
use Rattle.calendar_gregorian.proofs.Dates.{Real, real, in_year, before_le, first_to_last}

module _ (y : ℕ) where
  -- a week begins on a Monday
  pub on_monday : (w : ℕ) → iso_monday y w % 7 ≡ 0
  unfolding iso_monday
  on_monday w = omega arith

  -- January 4 is in week 1
  january4 : (iso_monday y 1 ≤ day_number y 1 4) × (day_number y 1 4 ≤ iso_monday y 1 + 6)
  unfolding iso_monday
  january4 = omega arith

  -- and so is the year's first Thursday
  pub first_thursday : (day_number y 1 1 ≤ iso_monday y 1 + 3) × (iso_monday y 1 + 3 ≤ day_number y 1 7)
  first_thursday = omega (arith, january4)

-- an ISO year has 52 or 53 weeks
pub weeks : (y : ℕ) → (iso_monday y 1 + 364 ≤ iso_monday (y + 1) 1) × (iso_monday (y + 1) 1 ≤ iso_monday y 1 + 371)
weeks y = omega (arith, january4 y, january4 (y + 1), on_monday y 1, on_monday (y + 1) 1, next_year y, leap-le y)

-- week w begins w - 1 weeks after week 1
pub week_after : (y w : ℕ) → iso_monday y w ≡ iso_monday y 1 + 7 * (w - 1)
unfolding iso_monday
week_after y w = omega arith

-- a date is in the ISO year before, of or after its own year
pub data Side (y m d : ℕ) : Type 0 where
  before : day_number y m d < iso_monday y 1 → iso_year y m d ≡ y - 1 → Side y m d
  within : iso_monday y 1 ≤ day_number y m d → day_number y m d < iso_monday (y + 1) 1 → iso_year y m d ≡ y → Side y m d
  after : iso_monday (y + 1) 1 ≤ day_number y m d → iso_year y m d ≡ y + 1 → Side y m d

pub side : (y m d : ℕ) → Side y m d
unfolding iso_year
side y m d = by (ltb (day_number y m d) (iso_monday y 1)) (ltb (day_number y m d) (iso_monday (y + 1) 1)) refl refl
  where
    by : (a b : Bool) → ltb (day_number y m d) (iso_monday y 1) ≡ a → ltb (day_number y m d) (iso_monday (y + 1) 1) ≡ b → Side y m d
    by true b p q = before (ltb-true (day_number y m d) (iso_monday y 1) p) (rw p)
    by false true p q = within (ltb-false (day_number y m d) (iso_monday y 1) p) (ltb-true (day_number y m d) (iso_monday (y + 1) 1) q) (rw (p, q))
    by false false p q = after (ltb-false (day_number y m d) (iso_monday (y + 1) 1) q) (rw (p, q))

-- the day j is in the ISO year y
pub record InIsoYear (j y : ℕ) : Type 0 where
  pub from : iso_monday y 1 ≤ j
  pub to : j < iso_monday (y + 1) 1

module _ {y m d : ℕ} (r : Real y m d) where
  pub in_iso_year : InIsoYear (day_number y m d) (iso_year y m d)
  in_iso_year = by (side y m d)
    where
      by : Side y m d → InIsoYear (day_number y m d) (iso_year y m d)
      by (before h e) =
          let back : y - 1 + 1 ≡ y = omega arith in
          rw e (record { from = omega (arith, rw back at (weeks (y - 1)), january4 y, in_year r); to = rw back h })
      by (within h k e) = rw e (record { from = h; to = k })
      by (after h e) = rw e (record { from = h; to = omega (arith, weeks (y + 1), january4 (y + 1), in_year r) })

  pub week_range : (1 ≤ iso_week y m d) × (iso_week y m d ≤ 53)
  unfolding iso_week
  week_range = omega (arith, in_iso_year, weeks (iso_year y m d))

  -- the date back from its ISO year, week and weekday
  pub day_of_week_lem : iso_monday (iso_year y m d) (iso_week y m d) + (iso_weekday (day_number y m d) - 1) ≡ day_number y m d
  unfolding iso_week
  day_of_week_lem =
      rw (week_after (iso_year y m d) (iso_week y m d))
      (rest (iso_monday (iso_year y m d) 1) (day_number y m d) (on_monday (iso_year y m d) 1) in_iso_year.from)
    where
      rest : (m j : ℕ) → m % 7 ≡ 0 → m ≤ j → m + 7 * ((j - m) / 7 + 1 - 1) + (j % 7 + 1 - 1) ≡ j
      rest m j e h = omega arith

-- week 1 of a later year begins no earlier
monday_le : {y z : ℕ} → y ≤ z → iso_monday y 1 ≤ iso_monday z 1
unfolding iso_monday
monday_le {y} {z} h = omega (arith, before_le h)

-- January 1 of year 1 is a Monday, January 1 of year 10000 a Saturday
first_monday : iso_monday 1 1 ≡ 1721426
unfolding iso_monday
first_monday = rw (closed 0)

last_monday : iso_monday 10000 1 ≡ 5373487
unfolding iso_monday
last_monday = rw (closed 9999)

module _ {y m d : ℕ} (v : Valid y m d) where
  pub year_range : (1 ≤ iso_year y m d) × (iso_year y m d ≤ 9999)
  year_range =
      let within_year = in_iso_year (real v) in
      let number_range = first_to_last v in
      let above : 0 < iso_year y m d = lt_of_not-le (λ h. let next : iso_year y m d + 1 ≤ 1 = omega arith in omega (arith, monday_le next, first_monday)) in
      let below : iso_year y m d < 10000 = lt_of_not-le (λ h. omega (arith, monday_le h, last_monday)) in
      omega arith
