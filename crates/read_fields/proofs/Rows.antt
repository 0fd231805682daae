-- The rows of the patterns as a table. Assumes nothing.
-- `row_in`: the number at a place of the table is the row of that pattern; past the table it is 0, as the row is.
use mathlib.Core.Path.{◌≡◌, ◌∙◌, refl, sym, ap}
use mathlib.Core.Bool.{true, false}
use mathlib.Core.List.{List, map}
use Prim.Native.Nat.{ℕ, zero, suc, ◌+◌, ◌<◌}
use native.Mathlib.Nat.{add-zero, add-suc, suc-add, zero-add, le_of_suc-le-suc, not-suc-le-zero}
use borrow.Author.Tests.{ltb-true, ltb-false}
use lib.Dec.{ltb}
use lib.ListN.{get_or, get_or-eq_default}
use Rattle.template_patterns.specs.Search.{count_from}
use Rattle.read_fields.specs.Tasks.{row_of}
use Rattle.read_fields.proofs.Assigned.{past_row}

-- the rows of n patterns from the pattern i on
counted : (i n k : ℕ) → k < n → get_or (map row_of (count_from i n)) k 0 ≡ row_of (i + k)
counted i zero k h = absurd (not-suc-le-zero h)
counted i (suc n) zero h = rw add-zero
counted i (suc n) (suc k) h = rw (add-suc i k, ← suc-add i k) (counted (suc i) n k (le_of_suc-le-suc h))

pub row_in : (table : List ℕ) → table ≡ map row_of (count_from 0 112) → (k : ℕ) → get_or table k 0 ≡ row_of k
row_in table e k =
    (elim (ltb k 112) as (λ b. ltb k 112 ≡ b → get_or table k 0 ≡ row_of k) [
      | true ↦ λ q. ap (λ (l : List ℕ). get_or l k 0) e ∙ rw zero-add at (counted 0 112 k (ltb-true _ _ q))
      | false ↦ λ q. ap (λ (l : List ℕ). get_or l k 0) e ∙ get_or-eq_default (map row_of (count_from 0 112)) 0 (ltb-false _ _ q) ∙ sym (past_row k (ltb-false _ _ q))
    ]) refl
