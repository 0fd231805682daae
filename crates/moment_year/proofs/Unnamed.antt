-- A year that is refused names no pattern. Assumes nothing.
-- `year_unnamed`: where P holds of `no_pattern`, it holds of the pattern that a refusal names.
use Rattle.std.specs.Prelude.{Ok}
use mathlib.Core.Bool.{not, ◌&&◌}
use Prim.Native.Nat.{ℕ}
use lib.IntN.{ℤ, pos, neg_ℤ}
use lib.Signed.{lt_z, rem_z}
use Rattle.base_notation.specs.Choice.{when◌then◌else◌}
use Rattle.base_notation.proofs.Cases.{by_if}
use Rattle.base_refusals.specs.Report.{no_pattern}
use Rattle.read_fields.specs.Fields.{get, is_zero, year, bc, cc, yysz}
use Rattle.read_fields.specs.declared.Fields.{Fields}
use Rattle.base_wrapping.specs.Wrap.{◌⊕◌, ◌⊖◌}
use Rattle.moment_sums.specs.Checked.{◌plus◌, ◌times◌}
use Rattle.moment_sums.proofs.Unnamed.{ValueNames, plus_unnamed, times_unnamed}
use Rattle.moment_year.specs.Year.{signed_by, year_in_century, first_of_century, year_of}

module _ (P : ℕ → Type 0) (none : P no_pattern) where
  -- hundreds and a number more
  sum_unnamed : (hundreds more : ℤ) → ValueNames P (Ok hundreds times 100 plus more)
  sum_unnamed hundreds more = plus_unnamed P none (Ok hundreds times 100) more (times_unnamed P none (Ok hundreds) 100 tt)

  in_century_unnamed : (century y : ℤ) → ValueNames P (year_in_century century y)
  unfolding year_in_century
  in_century_unnamed century y =
      by_if (ValueNames P) (is_zero y) _ _ (λ e. tt)
      (λ e. by_if (ValueNames P) (lt_z century (pos 0)) _ _
      (λ e. plus_unnamed P none (Ok (century ⊕ pos 1) times 100 plus neg_ℤ y) (pos 1) (sum_unnamed (century ⊕ pos 1) (neg_ℤ y)))
      (λ e. sum_unnamed (century ⊖ pos 1) y))

  first_unnamed : (century : ℤ) → ValueNames P (first_of_century century)
  unfolding first_of_century
  first_unnamed century = sum_unnamed (when lt_z century (pos 0) then century else century ⊖ pos 1) (pos 1)

  pub year_unnamed : (f : Fields) → ValueNames P (year_of f)
  unfolding year_of
  year_unnamed f =
      let y = get f year in
      let century = signed_by (get f bc) (get f cc) in
      by_if (ValueNames P) (is_zero y) _ _ (λ e. by_if (ValueNames P) (is_zero (get f cc)) _ _ (λ e. tt) (λ e. first_unnamed century))
      (λ e. by_if (ValueNames P) (not (is_zero (get f cc)) && lt_z (get f yysz) (pos 3)) _ _ (λ e. in_century_unnamed century (rem_z y (pos 100))) (λ e. tt))
