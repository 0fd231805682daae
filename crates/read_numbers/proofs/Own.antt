-- A pattern that reads a number and is refused names itself. Assumes nothing.
-- `read_number_own`, `read_dropped_own`: where P holds of a node's pattern, it holds of the pattern that a refusal
-- names.
use Rattle.std.specs.Prelude.{Err, Ok, Result, Some, None, Option}
use mathlib.Core.Bool.{Bool, ◌&&◌}
use mathlib.Core.List.{List}
use Prim.Native.Nat.{ℕ}
use lib.IntN.{pos, ◌+ℤ◌, ◌*ℤ◌}
use lib.ListN.{drop}
use Rattle.base_notation.proofs.Cases.{by_if}
use Rattle.base_refusals.specs.Report.{report_of}
use Rattle.read_integers.specs.Number.{fits32, number_at}
use Rattle.read_integers.specs.declared.Number.{Number}
use Rattle.read_integers.proofs.Own.{NumberNames, number_own}
use Rattle.template_nodes.specs.declared.Node.{Node}
use Rattle.read_fields.specs.Fields.{conflicts, get}
use Rattle.read_fields.specs.Tasks.{comma_year, kind_of, same_kind}
use Rattle.read_fields.specs.declared.Fields.{Fields}
use Rattle.read_fields.specs.declared.Place.{Place}
use Rattle.read_fields.specs.declared.Task.{Task}
use Rattle.read_fields.proofs.Own.{ReadingNames}
use Rattle.read_numbers.specs.Numbers.{stored_number, number_of, read_number, dropped_number, read_dropped}
use Rattle.read_numbers.specs.Year.{joined, scanned, scanned_year, comma_year_at}
use Rattle.read_numbers.specs.declared.years.Scanned.{Scanned}
use Rattle.base_refusals.specs.declared.Refusal.{Refusal}

-- a year with a comma
module _ (P : ℕ → Type 0) (pattern : ℕ) (own : P pattern) where
  scanned_own : (at : ℕ) (a : Option Scanned) → NumberNames P (scanned_year pattern at a)
  unfolding joined report_of
  scanned_own at None = own
  scanned_own at (Some r) =
      let whole = r.thousands *ℤ pos 1000 in
      by_if (NumberNames P) (fits32 whole && fits32 (r.years +ℤ whole)) _ _ (λ e. tt) (λ e. own)

  comma_own : (s : List ℕ) (at : ℕ) → NumberNames P (comma_year_at s at pattern)
  unfolding comma_year_at
  comma_own s at = scanned_own at (scanned (drop at s))

module _ (P : ℕ → Type 0) (s : List ℕ) (n : Node) (own : P n.pattern) (f : Fields) (p : Place) where
  -- a number that goes into its field, and one that is dropped
  stored_own : (task : Task) (a : Result Number Refusal) → NumberNames P a → ReadingNames P (stored_number s n task a f p)
  unfolding stored_number report_of
  stored_own task (Err why) named = named
  stored_own task (Ok r) named = by_if (ReadingNames P) (conflicts (get f task.field) r.value) _ _ (λ e. own) (λ e. tt)

  dropped_own : (a : Result Number Refusal) → NumberNames P a → ReadingNames P (dropped_number s n a f p)
  unfolding dropped_number
  dropped_own (Err why) named = named
  dropped_own (Ok r) named = tt

  pub read_number_own : (free : Bool) (task : Task) → ReadingNames P (read_number s n free task f p)
  read_number_own free task =
      stored_own task (number_of s n free task p.at)
      (by_if (NumberNames P) (same_kind (kind_of task.kind) comma_year) _ _ (λ e. comma_own P n.pattern own s p.at)
      (λ e. number_own P n.pattern own s p.at task.operand free))

  pub read_dropped_own : (free : Bool) (task : Task) → ReadingNames P (read_dropped s n free task f p)
  read_dropped_own free task =
      dropped_own (number_at s p.at task.operand n.pattern free) (number_own P n.pattern own s p.at task.operand free)
