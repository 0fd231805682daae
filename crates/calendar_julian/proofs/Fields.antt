-- The fields of `j2date` fit an i32. Assumes nothing.
-- `march_lt`: the day from March 1, plus 123, is below 489. `rest`: the remainder is the day of four years.
-- `year_fits`: the year, less 4800, fits an i32. `year_is`: without that it is read as it is.
-- `fields`: the date that the code makes is the definition's.
use Rattle.std.proofs.Common.{◌≡◌, ℕ, ◌+◌, ◌*◌, ◌/◌, ◌%◌, ◌^◌, ◌<◌, eqb, pos, ◌-ℤ◌, neg_ℤ, arith, to_z-of_z, w32, SFits, to_z}
use mir.Facts.{to_z_pos}
use Rattle.base_notation.proofs.Cases.{by_if}
use Rattle.base_notation.proofs.Magnitudes.{add_mag}
use Rattle.base_wrapping.proofs.Fits.{read}
use Rattle.calendar_julian.specs.ToDate.{day_of_four, year_of_four, day_from_march, month_of, day_of, date}

pub march_lt : (day : ℕ) → day_from_march day < 489
unfolding day_from_march
march_lt day =
    by_if (λ n. n + 123 < 489) (eqb (year_of_four day) 0) ((day + 306) % 366) ((day + 305) % 365) (λ e. omega arith) (λ e. omega arith)

-- the day of four years, as the code has it
pub rest : (days : ℕ) → days % 1461 ≡ day_of_four days
rest days = omega arith

-- the year, 4800 years on
abbrev pub year_of : ℕ → ℕ
year_of days = year_of_four (day_of_four days) + days / 1461 * 4

module _ (days : ℕ) (h : days < 2 ^ 32) where
  year_lt : year_of days < 2 ^ 24
  year_lt = omega arith

  pub year_is : to_z w32 (year_of days) ≡ pos (year_of days)
  year_is = to_z_pos w32 {n = year_of days} (omega (arith, year_lt))

  pub year_fits : SFits w32 (pos (year_of days) -ℤ pos 4800)
  year_fits = omega (arith, year_lt, add_mag (pos (year_of days)) (neg_ℤ (pos 4800)))

  -- as the code makes them, and as the definition does
  pub fields : (day : ℕ) → day < 489
      → date (read (to_z w32 (year_of days) -ℤ pos 4800)) (to_z w32 (month_of day)) (to_z w32 (day_of day))
      ≡ date (pos (year_of days) -ℤ pos 4800) (pos (month_of day)) (pos (day_of day))
  fields day l =
      rw (year_is, to_z-of_z year_fits, to_z_pos w32 {n = month_of day} (omega arith), to_z_pos w32 {n = day_of day} (omega arith))
