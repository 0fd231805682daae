-- The pattern that a refused reading names. Assumes nothing.
-- `onward_own`: where P holds of the pattern that a reading names, and of that which the rest after it names, it holds
-- of the pattern that the two in turn name.
use Rattle.std.specs.Prelude.{Err, Ok, Result, ⊤}
use Prim.Native.Nat.{ℕ}
use Rattle.base_refusals.specs.Report.{report_of}
use Rattle.read_fields.specs.Fields.{onward}
use Rattle.read_fields.specs.declared.Reading.{Reading}
use Rattle.base_refusals.specs.declared.Refusal.{Refusal}

-- P holds of the pattern that a refusal names
abbrev pub VerdictNames : (ℕ → Type 0) → Result ⊤ Refusal → Type 0
VerdictNames P (Ok tt) = Unit {0}
VerdictNames P (Err why) = P (report_of why).pattern

abbrev pub ReadingNames : (ℕ → Type 0) → Reading → Type 0
ReadingNames P r = VerdictNames P r.verdict

pub onward_own : (P : ℕ → Type 0) (r rest : Reading) → ReadingNames P r → ReadingNames P rest → ReadingNames P (onward r.verdict r rest)
onward_own P r rest first then_rest = split r.verdict
  where
    split : (v : Result ⊤ Refusal) → ReadingNames P (onward v r rest)
    split (Ok tt) = then_rest
    split (Err why) = first
