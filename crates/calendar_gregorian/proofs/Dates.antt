-- Every day from January 1 of year 1 on has a date. Assumes nothing.
-- `dated`: the day number 1721426 + n has a date. `valid`: to 5373484 it is one of the years 1 to 9999.
-- `first_to_last`: the day numbers of the years 1 to 9999 are 1721426 to 5373484.
-- `in_year`: a date's day number is not before January 1 of its year, and before that of the next.
-- `length_range`: a month has 28 to 31 days.
-- `before_le`: a later year has at least as many days before it.
-- `real`: a date of the years 1 to 9999 is a date of the years from 1 on.
-- `each`: what is shown for each of the numbers i to i + n, one by one, holds of them all.
use mathlib.Core.Path.{◌≡◌, refl, ◌∙◌, ap, sym, subst}
use mathlib.Core.Bool.{Bool, true, false}
use Prim.Native.Nat.{ℕ, zero, suc, ◌+◌, ◌-◌, ◌≤◌, ◌<◌}
use native.Mathlib.Nat.{le_refl, lt_of_not-le, add-zero, add-suc}
use native.Mathlib.Numerals.{add-one}
use native.Mathlib.Omega.{arith}
use borrow.Author.Tests.{ltb-true, ltb-false, eqb-true, eqb-false}
use lib.Dec.{ltb, eqb}
use Rattle.calendar_gregorian.specs.Gregorian.{leap, month_length, before_month, before_year, day_number, Valid}
use Rattle.calendar_gregorian.proofs.Closed.{leap-le, closed, next_year}

-- a property of each of the numbers i to i + n
abbrev pub Each : (ℕ → Type 0) → ℕ → ℕ → Type 0
Each P i zero = P i
Each P i (suc n) = P i × Each P (suc i) n

pub each : (P : ℕ → Type 0) (i n : ℕ) → Each P i n → (m : ℕ) → i ≤ m → m ≤ i + n → P m
each P i zero p m h k = subst P (omega arith) p
each P i (suc n) p m h k = by (eqb m i) refl (λ d. each P (suc i) n p.1 m (omega arith) (omega arith))
  where
    by : (t : Bool) → eqb m i ≡ t → ((m ≡ i → ⊥) → P m) → P m
    by true e rest = subst P (sym (eqb-true m i e)) p.0
    by false e rest = rest (eqb-false m i e)

-- what is shown for each month holds of all twelve
pub by_month : (P : ℕ → Type 0) → Each P 1 11 → (m : ℕ) → 1 ≤ m → m ≤ 12 → P m
by_month P = each P 1 11

module _ (y : ℕ) where
  pub length_range : (m : ℕ) → 1 ≤ m → m ≤ 12 → (28 ≤ month_length y m) × (month_length y m ≤ 31)
  length_range =
      let leap_days = leap-le y in
      by_month (λ m. (28 ≤ month_length y m) × (month_length y m ≤ 31)) (omega arith)

  -- after the last day of a month comes the first of the next
  next_month : (m : ℕ) → 1 ≤ m → m ≤ 11 → day_number y (m + 1) 1 ≡ day_number y m (month_length y m) + 1
  next_month = each (λ m. day_number y (m + 1) 1 ≡ day_number y m (month_length y m) + 1) 1 10 (omega arith)

  -- after December 31 comes January 1 of the next year
  new_year : day_number (y + 1) 1 1 ≡ day_number y 12 31 + 1
  new_year = omega (arith, next_year y)

  -- a month ends within its year
  months : (m : ℕ) → 1 ≤ m → m ≤ 12 → before_month (leap y) m + month_length y m ≤ 365 + leap y
  months = by_month (λ m. before_month (leap y) m + month_length y m ≤ 365 + leap y) (omega arith)

-- a date of the years from 1 on
pub record Real (y m d : ℕ) : Type 0 where
  pub year_from : 1 ≤ y
  pub month_from : 1 ≤ m
  pub month_to : m ≤ 12
  pub day_from : 1 ≤ d
  pub day_to : d ≤ month_length y m

-- a date is in its year
pub in_year : {y m d : ℕ} → Real y m d → (day_number y 1 1 ≤ day_number y m d) × (day_number y m d < day_number (y + 1) 1 1)
in_year {y} {m} {d} r = omega (arith, months y m r.month_from r.month_to, next_year y)

before_grows : (y n : ℕ) → before_year y ≤ before_year (y + n)
before_grows y zero = rw add-zero (le_refl (before_year y))
before_grows y (suc n) = rw (add-suc y n, ← add-one (y + n)) (omega (arith, before_grows y n, next_year (y + n)))

pub before_le : {y z : ℕ} → y ≤ z → before_year y ≤ before_year z
before_le {y} {z} h = subst (λ (k : ℕ). before_year y ≤ before_year k) (omega arith) (before_grows y (z - y))

-- the date of the day j
pub record Dated (j : ℕ) : Type 0 where
  pub y : ℕ
  pub m : ℕ
  pub d : ℕ
  pub real : Real y m d
  pub is : day_number y m d ≡ j

-- the date of the next day: in the same month, in the next, or in the next year
tomorrow : {j : ℕ} → Dated j → Dated (j + 1)
tomorrow {j} t = by (ltb t.d (month_length t.y t.m)) (ltb t.m 12) refl refl
  where
    by : (a b : Bool) → ltb t.d (month_length t.y t.m) ≡ a → ltb t.m 12 ≡ b → Dated (j + 1)
    by true b p q = record { y = t.y; m = t.m; d = t.d + 1; real = omega (arith, ltb-true); is = omega arith }
    by false true p q =
        let not_december : t.m < 12 = ltb-true t.m 12 q in
        let last_day : month_length t.y t.m ≡ t.d = omega (arith, ltb-false) in
        let next_length = length_range t.y (t.m + 1) (omega arith) (omega arith) in
        record {
          y = t.y;
          m = t.m + 1;
          d = 1;
          real = omega arith;
          is = rw last_day at (next_month t.y t.m (omega arith) (omega arith)) ∙ ap (λ (k : ℕ). k + 1) t.is;
        }
    by false false p q =
        let december : t.m ≡ 12 = omega (arith, ltb-false t.m 12 q) in
        let from_31 : 31 ≤ t.d = rw december at (ltb-false t.d (month_length t.y t.m) p) in
        let to_31 : t.d ≤ 31 = rw december at t.real.day_to in
        let is_j : day_number t.y 12 t.d ≡ j = rw december at t.is in
        record { y = t.y + 1; m = 1; d = 1; real = omega arith; is = omega (arith, new_year t.y) }

pub dated : (n : ℕ) → Dated (1721426 + n)
dated zero = record { y = 1; m = 1; d = 1; real = omega arith; is = omega (arith, closed 0) }
dated (suc n) = subst Dated (omega arith) (tomorrow (dated n))

pub valid : {j : ℕ} → j ≤ 5373484 → (t : Dated j) → Valid t.y t.m t.d
valid {j} h t =
    let year_below : t.y < 10000 = lt_of_not-le (λ l. omega (arith, before_le l, closed 9999)) in
    omega arith

module _ {y m d : ℕ} (v : Valid y m d) where
  pub real : Real y m d
  real = omega arith

  pub first_to_last : (1721426 ≤ day_number y m d) × (day_number y m d ≤ 5373484)
  first_to_last =
      let next_to : y + 1 ≤ 10000 = omega arith in
      omega (arith, in_year real, before_le v.year_from, before_le next_to, closed 0, closed 9999)
