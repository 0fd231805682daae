-- `j2date` on a year from March and a day of it: 400 years, centuries, four years, years. Assumes nothing.
-- `found_late`: from March to December the year and the day are found.
-- `found_early`: in January and February the next year and the day are, where a leap day is one of the calendar.
-- `Found` says what is found: the year, and the day from March 1, plus 123.
use Rattle.std.proofs.Common.{◌≡◌, ℕ, zero, suc, ◌+◌, ◌-◌, ◌*◌, ◌/◌, ◌%◌, ◌<◌, ◌≤◌, pos, sym, refl, ap, ◌∙◌, subst₂, mod-eq_of_lt, arith, eq-eqb, ne_eqb}
use Rattle.calendar_gregorian.proofs.Dates.{each}
use Rattle.calendar_julian.specs.ToDate.{shifted, with_skipped, day_of_four, year_of_four, day_from_march}
use Rattle.calendar_julian.proofs.DayNumber.{base}
use Rattle.calendar_julian.proofs.Fields.{year_of}

-- which 400 years a day is in, and which century of them
cycles : (q x : ℕ) → x < 146097 → (146097 * q + x) / 146097 ≡ q
cycles q x h = omega arith

centuries : (e w : ℕ) → e ≤ 3 → w ≤ 36523 + e / 3 → ((36524 * e + w) * 4 + 3) / 146097 ≡ e
centuries e w h k = omega arith

-- the day w of the century e of the q-th 400 years, with the leap days that centuries skip added
skipped : (q e w : ℕ) → q ≤ 60 → e ≤ 3 → w ≤ 36523 + e / 3
    → with_skipped (146097 * q + (36524 * e + w)) ≡ 146100 * q + 36525 * e + w + 60
unfolding with_skipped
skipped q e w l h k =
    let rest : 146097 * q + (36524 * e + w) - q * 146097 ≡ 36524 * e + w = omega arith in
    rw (cycles q (36524 * e + w) (omega arith), rest, centuries e w h k) (omega arith)

-- the days are in the year y, and t is their day from March 1, plus 123
pub record Found (days y t : ℕ) : Type 0 where
  pub year : year_of days ≡ y
  pub day : day_from_march (day_of_four days) ≡ t

-- the same, said of equal numbers
recast : {days days' y y' t : ℕ} → days ≡ days' → y ≡ y' → Found days y t → Found days' y' t
recast {t} e f r = subst₂ (λ (n y : ℕ). Found n y t) e f r

-- the day v of the g-th four years
in_four : (g v k t : ℕ) → v < 1461 → year_of_four v ≡ k → day_from_march v ≡ t → Found (1461 * g + v) (k + g * 4) t
in_four g v k t h e f =
    let which_four : (1461 * g + v) / 1461 ≡ g = omega arith in
    let day_of_the_four : 1461 * g + v - g * 1461 ≡ v = omega arith in
    record { year = rw (which_four, day_of_the_four, e); day = rw (which_four, day_of_the_four, f) }

-- the day from March 1 in the first of four years, and in the others
leap_year : (v : ℕ) → year_of_four v ≡ 0 → day_from_march v ≡ (v + 306) % 366 + 123
unfolding day_from_march
leap_year v e = rw (eq-eqb (year_of_four v) 0 e)

common_year : (v k : ℕ) → year_of_four v ≡ suc k → day_from_march v ≡ (v + 305) % 365 + 123
unfolding day_from_march
common_year v k e = rw (ne_eqb (year_of_four v) 0 (λ z. omega arith))

common_day : (k u : ℕ) → u < 365 → (365 * k + u + 60 + 305) % 365 ≡ u
common_day k u h = let quotient : (365 * k + u + 60 + 305) / 365 ≡ k + 1 = omega arith in omega arith

-- from March to December, u ≤ 305, of the year k of four
march : (g k u : ℕ) → k ≤ 3 → u ≤ 305 → Found (1461 * g + (365 * k + u + 60)) (k + g * 4) (u + 123)
march g k u h l = in_four g (365 * k + u + 60) k (u + 123) (omega arith) (year k h) (day k h)
  where
    year : (k : ℕ) → k ≤ 3 → (365 * k + u + 60) * 4 / 1461 ≡ k
    year k h = omega arith

    day : (k : ℕ) → k ≤ 3 → day_from_march (365 * k + u + 60) ≡ u + 123
    day zero h = leap_year (365 * 0 + u + 60) (year 0 (omega arith)) ∙ omega arith
    day (suc k) h = common_year (365 * suc k + u + 60) k (year (suc k) h) ∙ ap (λ (n : ℕ). n + 123) (common_day (suc k) u (omega arith))

-- January and February, 306 ≤ u, where u ≡ 365 is February 29
january : (g k u : ℕ) → k ≤ 3 → 306 ≤ u → u ≤ 364 + k / 3 → Found (1461 * g + (365 * k + u + 60)) (k + g * 4 + 1) (u + 123)
january g k u h l =
    each (λ k. u ≤ 364 + k / 3 → Found (1461 * g + (365 * k + u + 60)) (k + g * 4 + 1) (u + 123)) 0 3
    (next 0 (omega arith), (next 1 (omega arith), (next 2 (omega arith), last))) k (omega arith) h
  where
    year : (k : ℕ) → k ≤ 2 → u ≤ 364 → (365 * k + u + 60) * 4 / 1461 ≡ suc k
    year k h m = omega arith

    next : (k : ℕ) → k ≤ 2 → u ≤ 364 + k / 3 → Found (1461 * g + (365 * k + u + 60)) (k + g * 4 + 1) (u + 123)
    next k h m =
        let next_year = year k h (omega arith) in
        recast refl (omega arith)
        (in_four g (365 * k + u + 60) (suc k) (u + 123) (omega arith) next_year
        (common_year (365 * k + u + 60) k next_year ∙ ap (λ (n : ℕ). n + 123) (common_day k u (omega arith))))

    last : u ≤ 364 + 3 / 3 → Found (1461 * g + (365 * 3 + u + 60)) (3 + g * 4 + 1) (u + 123)
    last m =
        let first_year : (u - 306) * 4 / 1461 ≡ 0 = omega arith in
        let back : u - 306 + 306 ≡ u = omega arith in
        let same_day : (u - 306 + 306) % 366 ≡ u = rw back (mod-eq_of_lt (omega arith)) in
        recast (omega arith) (omega arith)
        (in_four (g + 1) (u - 306) 0 (u + 123) (omega arith) first_year (leap_year (u - 306) first_year ∙ ap (λ (n : ℕ). n + 123) same_day))

-- the year f of the century e of the q-th 400 years, and its day u
abbrev year_at : ℕ → ℕ → ℕ → ℕ
year_at q e f = 400 * q + 100 * e + f

abbrev day_at : ℕ → ℕ → ℕ → ℕ → ℕ
day_at q e f u = 146097 * q + (36524 * e + (365 * f + f / 4 + u))

module _ (q e f u : ℕ) (hq : q ≤ 60) (he : e ≤ 3) (hf : f ≤ 99) where
  -- the days, by fours of years
  in_fours : 146100 * q + 36525 * e + (365 * f + f / 4 + u) + 60 ≡ 1461 * (100 * q + 25 * e + f / 4) + (365 * (f % 4) + u + 60)
  in_fours = omega arith

  -- from March to December
  late_at : u ≤ 305 → Found (with_skipped (day_at q e f u)) (year_at q e f) (u + 123)
  late_at h =
      recast (sym (skipped q e (365 * f + f / 4 + u) hq he (omega arith) ∙ in_fours)) (omega arith)
      (march (100 * q + 25 * e + f / 4) (f % 4) u (omega arith) h)

  -- in January and February
  early_at : 306 ≤ u → u ≤ 364 + f % 4 / 3 → 365 * f + f / 4 + u ≤ 36523 + e / 3 → Found (with_skipped (day_at q e f u)) (year_at q e f + 1) (u + 123)
  early_at h k l =
      recast (sym (skipped q e (365 * f + f / 4 + u) hq he l ∙ in_fours)) (omega arith)
      (january (100 * q + 25 * e + f / 4) (f % 4) u (omega arith) h k)

  -- the day number, from March 1 of year -4800
  base_at : 4799 ≤ year_at q e f → base (year_at q e f) + (u + 123) + 32044 ≡ day_at q e f u
  unfolding base
  base_at h = rw (over4, over100, over400) (omega arith)
    where
      over4 : year_at q e f / 4 ≡ 100 * q + 25 * e + f / 4
      over4 = omega arith

      over100 : year_at q e f / 100 ≡ 4 * q + e
      over100 = omega arith

      over400 : (4 * q + e) / 4 ≡ q
      over400 = omega arith

-- a year by its 400 years, century and year of the century
module _ (y t : ℕ) (from : 4799 ≤ y) (to : y ≤ 20000) (first : 123 ≤ t) (last : t ≤ 488) where
  split : year_at (y / 100 / 4) (y / 100 % 4) (y % 100) ≡ y
  split = omega arith

  cycle : y / 100 / 4 ≤ 60
  cycle = omega arith

  century : y / 100 % 4 ≤ 3
  century = omega arith

  rest : y % 100 ≤ 99
  rest = omega arith

  small : base y ≤ 10000000
  unfolding base
  small = omega arith

  back : t - 123 + 123 ≡ t
  back = omega arith

  shift : shifted (pos (base y + t)) ≡ base y + t + 32044
  unfolding shifted
  shift = omega (arith, small)

  to_day : shifted (pos (base y + t)) ≡ day_at (y / 100 / 4) (y / 100 % 4) (y % 100) (t - 123)
  to_day =
      let from_4799 : 4799 ≤ year_at (y / 100 / 4) (y / 100 % 4) (y % 100) = rw split from in
      shift ∙ rw (split, back) at (base_at (y / 100 / 4) (y / 100 % 4) (y % 100) (t - 123) cycle century rest from_4799)

  pub found_late : t ≤ 428 → Found (with_skipped (shifted (pos (base y + t)))) y t
  found_late h =
      rw to_day (rw (split, back) at (late_at (y / 100 / 4) (y / 100 % 4) (y % 100) (t - 123) cycle century rest (omega arith)))

  pub found_early : 429 ≤ t → t ≤ 487 + y % 100 % 4 / 3 → 365 * (y % 100) + y % 100 / 4 + t ≤ 36646 + y / 100 % 4 / 3
      → Found (with_skipped (shifted (pos (base y + t)))) (y + 1) t
  found_early h k l =
      rw to_day
      (rw (split, back) at (early_at (y / 100 / 4) (y / 100 % 4) (y % 100) (t - 123) cycle century rest (omega arith) (omega arith) (omega arith)))
