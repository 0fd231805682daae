-- An hour, a fraction or an offset that is refused names no pattern. Assumes nothing.
-- `clock_unnamed`, `micros_unnamed`, `offset_unnamed`: where P holds of `no_pattern`, it holds of the pattern that a
-- refusal names.
use Rattle.std.specs.Prelude.{Err, Ok, Option, Result}
use mathlib.Core.Bool.{not, ◌&&◌, ◌||◌}
use Prim.Native.Nat.{ℕ}
use lib.IntN.{ℤ, pos}
use lib.Signed.{lt_z}
use Rattle.base_notation.proofs.Cases.{by_if}
use Rattle.base_refusals.specs.Report.{no_pattern, report_of}
use Rattle.read_fields.specs.Fields.{get, is_zero, eq_ℤ, pm, ms, us, clock}
use Rattle.read_fields.specs.declared.Fields.{Fields}
use Rattle.moment_sums.specs.Checked.{◌times◌}
use Rattle.moment_sums.proofs.Unnamed.{ValueNames, times_unnamed}
use Rattle.moment_time.specs.Time.{hour_of, hour_of_twelve, clock_hour, with_micros, micros_of, offset_in_range, checked_offset}
use Rattle.base_refusals.specs.declared.Refusal.{Refusal}

-- P holds of the pattern that a refusal names
abbrev pub ZonedNames : (ℕ → Type 0) → Result (Option ℤ) Refusal → Type 0
ZonedNames P (Ok offset) = Unit {0}
ZonedNames P (Err why) = P (report_of why).pattern

module _ (P : ℕ → Type 0) (none : P no_pattern) (f : Fields) where
  twelve_unnamed : (is_pm h : ℤ) → ValueNames P (hour_of_twelve is_pm h)
  unfolding hour_of_twelve report_of
  twelve_unnamed is_pm h =
      by_if (ValueNames P) (lt_z h (pos 1) || lt_z (pos 12) h) _ _ (λ e. none)
      (λ e. by_if (ValueNames P) (not (is_zero is_pm) && lt_z h (pos 12)) _ _ (λ e. tt)
      (λ e. by_if (ValueNames P) (is_zero is_pm && eq_ℤ h (pos 12)) _ _ (λ e. tt) (λ e. tt)))

  pub clock_unnamed : ValueNames P (clock_hour f)
  unfolding clock_hour
  clock_unnamed = by_if (ValueNames P) (eq_ℤ (get f clock) (pos 12)) _ _ (λ e. twelve_unnamed (get f pm) (hour_of f)) (λ e. tt)

  with_micros_unnamed : (v : Result ℤ Refusal) (n : ℤ) → ValueNames P v → ValueNames P (with_micros v n)
  with_micros_unnamed (Ok whole) n named = tt
  with_micros_unnamed (Err why) n named = named

  pub micros_unnamed : ValueNames P (micros_of f)
  unfolding micros_of
  micros_unnamed = with_micros_unnamed (Ok (get f ms) times 1000) (get f us) (times_unnamed P none (Ok (get f ms)) 1000 tt)

  pub offset_unnamed : ZonedNames P (checked_offset f)
  unfolding checked_offset report_of
  offset_unnamed = by_if (ZonedNames P) (offset_in_range f) _ _ (λ e. tt) (λ e. none)
