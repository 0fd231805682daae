-- A date that is refused names no pattern. Assumes nothing.
-- `date_unnamed`: where P holds of `no_pattern`, it holds of the pattern that a refusal names.
use Rattle.std.specs.Prelude.{Err, Ok, Result}
use mathlib.Core.Bool.{not}
use Prim.Native.Nat.{ℕ}
use lib.IntN.{ℤ, pos, negsuc}
use Rattle.base_notation.proofs.Cases.{by_if}
use Rattle.base_refusals.specs.Report.{no_pattern, report_of}
use Rattle.template_patterns.specs.Patterns.{iso_week}
use Rattle.read_fields.specs.Fields.{get, is_zero, eq_ℤ, mode, ww, w}
use Rattle.read_fields.specs.declared.Fields.{Fields}
use Rattle.moment_sums.specs.Checked.{◌plus◌, ◌times◌}
use Rattle.moment_sums.proofs.Unnamed.{ValueNames, plus_unnamed, times_unnamed}
use Rattle.moment_year.specs.Year.{year_of}
use Rattle.moment_year.proofs.Unnamed.{year_unnamed}
use Rattle.moment_date.specs.Dates.{begun, with_julian, first_of_week, on_day_of_year, on_day_of_month, with_week, with_month_week, with_day, with_month, counts_day_of_year, lacks_year, with_day_of_year, then_day_of_year, then_month_week, then_week, dated_of}
use Rattle.moment_date.specs.declared.Days.{Days}
use Rattle.base_refusals.specs.declared.Refusal.{Refusal}

-- P holds of the pattern that a refusal names
abbrev pub DatedNames : (ℕ → Type 0) → Result Days Refusal → Type 0
DatedNames P (Ok r) = Unit {0}
DatedNames P (Err why) = P (report_of why).pattern

module _ (P : ℕ → Type 0) (none : P no_pattern) where
  -- the first day of a week, as the day of the year and of the month
  week_unnamed : (n : ℤ) → ValueNames P (first_of_week n)
  unfolding first_of_week
  week_unnamed n =
      plus_unnamed P none (Ok n plus negsuc 0 times 7) (pos 1)
      (times_unnamed P none (Ok n plus negsuc 0) 7 (plus_unnamed P none (Ok n) (negsuc 0) tt))

  on_year_unnamed : (r : Days) (v : Result ℤ Refusal) → ValueNames P v → DatedNames P (on_day_of_year r v)
  on_year_unnamed r (Ok n) named = tt
  on_year_unnamed r (Err why) named = named

  on_month_unnamed : (r : Days) (v : Result ℤ Refusal) → ValueNames P v → DatedNames P (on_day_of_month r v)
  on_month_unnamed r (Ok n) named = tt
  on_month_unnamed r (Err why) named = named

  module _ (f : Fields) where
    -- each step
    with_week_unnamed : (r : Days) → DatedNames P (with_week f r)
    unfolding with_week
    with_week_unnamed r =
        by_if (DatedNames P) (is_zero (get f ww)) _ _ (λ e. tt)
        (λ e. by_if (DatedNames P) (eq_ℤ (get f mode) (pos iso_week)) _ _ (λ e. tt) (λ e. on_year_unnamed r (first_of_week (get f ww)) (week_unnamed (get f ww))))

    with_month_week_unnamed : (r : Days) → DatedNames P (with_month_week f r)
    unfolding with_month_week
    with_month_week_unnamed r =
        by_if (DatedNames P) (is_zero (get f w)) _ _ (λ e. tt) (λ e. on_month_unnamed r (first_of_week (get f w)) (week_unnamed (get f w)))

    with_day_of_year_unnamed : (r : Days) → DatedNames P (with_day_of_year f r)
    unfolding with_day_of_year report_of
    with_day_of_year_unnamed r =
        by_if (DatedNames P) (not (counts_day_of_year r)) _ _ (λ e. tt)
        (λ e. by_if (DatedNames P) (lacks_year f r) _ _ (λ e. none)
        (λ e. by_if (DatedNames P) (eq_ℤ (get f mode) (pos iso_week)) _ _ (λ e. tt) (λ e. tt)))

    -- and each on what the one before left
    then_day_of_year_lem : (a : Result Days Refusal) → DatedNames P a → DatedNames P (then_day_of_year f a)
    then_day_of_year_lem (Err why) named = named
    then_day_of_year_lem (Ok r) named = with_day_of_year_unnamed (with_month f (with_day r))

    then_month_week_lem : (a : Result Days Refusal) → DatedNames P a → DatedNames P (then_month_week f a)
    then_month_week_lem (Err why) named = named
    then_month_week_lem (Ok r) named = then_day_of_year_lem (with_month_week f r) (with_month_week_unnamed r)

    then_week_lem : (v : Result ℤ Refusal) → ValueNames P v → DatedNames P (then_week f v)
    then_week_lem (Err why) named = named
    then_week_lem (Ok y) named =
        then_month_week_lem (with_week f (with_julian f (begun f y))) (with_week_unnamed (with_julian f (begun f y)))

    pub date_unnamed : DatedNames P (dated_of f)
    unfolding dated_of
    date_unnamed = then_week_lem (year_of f) (year_unnamed P none f)
