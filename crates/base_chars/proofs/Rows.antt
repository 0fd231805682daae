-- The row of the table that a first byte picks: the rows' first ranges do not overlap. Assumes nothing.
-- `first`, `others`: a row's range for the first byte, and its ranges for the others.
-- `none`, `over`: nothing begins with a byte below the first ranges, or above them.
-- `decides`: for a byte in the first range of the row k, this row alone decides.
-- `found`: a sequence that was found is one of a row (`Fits`).
use mathlib.Core.Path.{◌≡◌, refl}
use mathlib.Core.Bool.{Bool, true, false, ◌&&◌, false≢true}
use mathlib.Core.List.{List, [], ◌∷◌}
use Prim.Native.Nat.{ℕ, zero, suc, ◌≤◌, ◌<◌}
use native.Mathlib.Nat.{le_of_suc-le-suc, not-suc-le-zero}
use native.Mathlib.Omega.{arith}
use borrow.Author.Tests.{leb-true, ltb-true}
use lib.Dec.{leb, ltb}
use lib.ListN.{length, get_or}
use Rattle.base_notation.specs.Choice.{when◌then◌else◌}
use Rattle.base_notation.proofs.Cases.{both}
use Rattle.base_chars.specs.Range.{Range, ◌‥◌, ◌∈◌}
use Rattle.base_chars.specs.Utf8.{begins, first_row}
use Rattle.base_chars.proofs.Ranges.{below, above, bounds}

-- the first ranges of the rows go upwards, from m on
abbrev upwards : ℕ → List (List Range) → Bool
upwards m [] = true
upwards m ([] ∷ rows) = false
upwards m ((r ∷ rs) ∷ rows) = leb m r.low && (leb r.low r.high && upwards (suc r.high) rows)

-- the row that begins with the range r, and the rows after it
record Up (m : ℕ) (r : Range) (rows : List (List Range)) : Type 0 where
  from : m ≤ r.low
  some : r.low ≤ r.high
  later : upwards (suc r.high) rows ≡ true

up : (m : ℕ) (r : Range) (rs : List Range) (rows : List (List Range)) → upwards m ((r ∷ rs) ∷ rows) ≡ true → Up m r rows
up m r rs rows e =
    let from_m = both (leb m r.low) _ e in
    let some_bytes = both (leb r.low r.high) _ from_m.1 in
    record { from = leb-true _ _ from_m.0; some = leb-true _ _ some_bytes.0; later = some_bytes.1 }

pub none : (m : ℕ) (rows : List (List Range)) (b : ℕ) (s : List ℕ) → upwards m rows ≡ true → b < m → first_row rows (b ∷ s) ≡ 0
none m [] b s e h = refl
none m ([] ∷ rows) b s e h = absurd (false≢true e)
none m ((r ∷ rs) ∷ rows) b s e h =
    let here = up m r rs rows e in
    rw (below r b (omega arith)) (none (suc r.high) rows b s here.later (omega arith))

abbrev pub first : List Range → Range
first [] = 1 ‥ 0
first (r ∷ rs) = r

abbrev pub others : List Range → List Range
others [] = []
others (r ∷ rs) = rs

-- every first range is from m on
reaches : (m : ℕ) (rows : List (List Range)) (k : ℕ) → upwards m rows ≡ true → k < length rows → m ≤ (first (get_or rows k [])).low
reaches m [] k e h = absurd (not-suc-le-zero h)
reaches m ([] ∷ rows) k e h = absurd (false≢true e)
reaches m ((r ∷ rs) ∷ rows) zero e h = (up m r rs rows e).from
reaches m ((r ∷ rs) ∷ rows) (suc k) e h =
    let here = up m r rs rows e in
    omega (arith, reaches (suc r.high) rows k here.later (le_of_suc-le-suc h))

-- the first ranges all end below n
abbrev under : ℕ → List (List Range) → Bool
under n [] = true
under n ([] ∷ rows) = false
under n ((r ∷ rs) ∷ rows) = ltb r.high n && under n rows

module _ (b : ℕ) (s : List ℕ) where
  pub decides
      : (m : ℕ) (rows : List (List Range)) (k : ℕ) → upwards m rows ≡ true → k < length rows → b ∈ first (get_or rows k []) ≡ true
      → first_row rows (b ∷ s) ≡ (when begins (others (get_or rows k [])) s then length (get_or rows k []) else 0)
  decides m [] k e h q = absurd (not-suc-le-zero h)
  decides m ([] ∷ rows) k e h q = absurd (false≢true e)
  decides m ((r ∷ rs) ∷ rows) zero e h q =
      let here = up m r rs rows e in
      rw (q, none (suc r.high) rows b s here.later (omega (arith, bounds r b q)))
  decides m ((r ∷ rs) ∷ rows) (suc k) e h q =
      let here = up m r rs rows e in
      let after_here = reaches (suc r.high) rows k here.later (le_of_suc-le-suc h) in
      rw (above r b (omega (arith, bounds (first (get_or rows k [])) b q)))
      (decides (suc r.high) rows k here.later (le_of_suc-le-suc h) q)

  pub over : (n : ℕ) (rows : List (List Range)) → under n rows ≡ true → n ≤ b → first_row rows (b ∷ s) ≡ 0
  over n [] e h = refl
  over n ([] ∷ rows) e h = absurd (false≢true e)
  over n ((r ∷ rs) ∷ rows) e h =
      let tests = both (ltb r.high n) _ e in
      rw (above r b (omega (arith, ltb-true r.high n tests.0))) (over n rows tests.1 h)

  -- the row k, of length n, in which a sequence was found
  pub record Fits (rows : List (List Range)) (n : ℕ) : Type 0 where
    pub k : ℕ
    pub within : k < length rows
    pub head : b ∈ first (get_or rows k []) ≡ true
    pub tail : begins (others (get_or rows k [])) s ≡ true
    pub long : length (get_or rows k []) ≡ n

  pub found : (m : ℕ) (rows : List (List Range)) (n : ℕ) → upwards m rows ≡ true → first_row rows (b ∷ s) ≡ suc n → Fits rows (suc n)
  found m [] n e q = absurd (omega arith)
  found m ([] ∷ rows) n e q = absurd (false≢true e)
  found m ((r ∷ rs) ∷ rows) n e q =
      (elim (begins (r ∷ rs) (b ∷ s)) as (λ t. begins (r ∷ rs) (b ∷ s) ≡ t → Fits ((r ∷ rs) ∷ rows) (suc n)) [
        | true ↦ λ f.
            let tests = both (b ∈ r) _ f in
            record { k = 0; within = omega arith; head = tests.0; tail = tests.1; long = rw f at q }
        | false ↦ λ f.
            let later = found (suc r.high) rows n (up m r rs rows e).later (rw f at q) in
            record {
              k = suc later.k;
              within = omega (arith, later.within);
              head = later.head;
              tail = later.tail;
              long = later.long;
            }
      ]) refl
