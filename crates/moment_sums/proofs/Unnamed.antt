-- Sums and products that are refused name no pattern. Assumes nothing.
-- `plus_unnamed`, `times_unnamed`: where P holds of `no_pattern`, it holds of the pattern that a refusal names, if it
-- does so of the number that is added to or multiplied.
use Rattle.std.specs.Prelude.{Err, Ok, Result}
use Prim.Native.Nat.{ℕ}
use lib.IntN.{ℤ, pos, ◌+ℤ◌, ◌*ℤ◌}
use Rattle.base_notation.proofs.Cases.{by_if}
use Rattle.base_refusals.specs.Report.{no_pattern, report_of}
use Rattle.read_integers.specs.Number.{fits32}
use Rattle.moment_sums.specs.Checked.{checked, ◌plus◌, ◌times◌}
use Rattle.base_refusals.specs.declared.Refusal.{Refusal}

-- P holds of the pattern that a refusal names
abbrev pub ValueNames : (ℕ → Type 0) → Result ℤ Refusal → Type 0
ValueNames P (Ok z) = Unit {0}
ValueNames P (Err why) = P (report_of why).pattern

module _ (P : ℕ → Type 0) (none : P no_pattern) where
  checked_unnamed : (z : ℤ) → ValueNames P (checked z)
  unfolding report_of
  checked_unnamed z = by_if (ValueNames P) (fits32 z) _ _ (λ e. tt) (λ e. none)

  pub plus_unnamed : (v : Result ℤ Refusal) (b : ℤ) → ValueNames P v → ValueNames P (v plus b)
  plus_unnamed (Ok a) b named = checked_unnamed (a +ℤ b)
  plus_unnamed (Err why) b named = named

  pub times_unnamed : (v : Result ℤ Refusal) (k : ℕ) → ValueNames P v → ValueNames P (v times k)
  times_unnamed (Ok a) k named = checked_unnamed (a *ℤ pos k)
  times_unnamed (Err why) k named = named
