-- A number that is refused names its own pattern. Assumes nothing.
-- `number_own`: where P holds of the pattern by which a number is read, it holds of the pattern that a refusal names.
use Rattle.std.specs.Prelude.{Err, Ok, Result}
use mathlib.Core.Bool.{Bool, true, false, not, ◌&&◌, ◌||◌}
use mathlib.Core.List.{List}
use Prim.Native.Nat.{ℕ, ◌+◌, ◌-◌}
use lib.Dec.{eqb, ltb}
use lib.ListN.{length, take, drop}
use Rattle.base_notation.proofs.Cases.{by_if}
use Rattle.base_refusals.specs.Report.{report_of}
use Rattle.base_strtol.specs.Runs.{spaces}
use Rattle.base_strtol.specs.Strtol.{strtol}
use Rattle.base_strtol.specs.declared.Strtol.{Strtol}
use Rattle.read_integers.specs.declared.Number.{Number}
use Rattle.read_integers.specs.Number.{fits32, checked, fixed_at, number_at}
use Rattle.base_refusals.specs.declared.Refusal.{Refusal}

-- P holds of the pattern that a refusal names
abbrev pub NumberNames : (ℕ → Type 0) → Result Number Refusal → Type 0
NumberNames P (Ok z) = Unit {0}
NumberNames P (Err why) = P (report_of why).pattern

module _ (P : ℕ → Type 0) (pattern : ℕ) (own : P pattern) (s : List ℕ) (at : ℕ) where
  checked_own : (r : Strtol) → NumberNames P (checked pattern at r)
  unfolding checked report_of
  checked_own r =
      by_if (NumberNames P) (eqb r.end at) _ _ (λ e. own)
      (λ e. by_if (NumberNames P) (r.overflow || not (fits32 r.value)) _ _ (λ f. own) (λ f. tt))

  fixed_own : (width : ℕ) → NumberNames P (fixed_at s at width pattern)
  unfolding fixed_at report_of
  fixed_own width =
      let from = at + spaces (drop at s) in
      let r = strtol (take width (drop from s)) 0 in
      by_if (NumberNames P) (ltb (length s - from) width) _ _ (λ e. own)
      (λ e. by_if (NumberNames P) (ltb 0 r.end && ltb r.end width) _ _ (λ f. own) (λ f. checked_own _))

  pub number_own : (width : ℕ) (free : Bool) → NumberNames P (number_at s at width pattern free)
  unfolding number_at
  number_own width true = checked_own (strtol s at)
  number_own width false = fixed_own width
