-- The rule of a table, proved at every entry by one test that computes. Assumes nothing.
-- `all_from`: the test passes at each entry of a table, whose indices are counted from a number.
-- `entry`: a test that passed over the whole table passes at the entry k.
-- `arm`: where the arm of the number i gives f's value at i, it gives f's value.
-- `past_all`: what is none of the numbers below n, as a match says of its last arm, is n or more.
use mathlib.Core.Path.{◌≡◌, ◌∙◌, refl, sym, ap}
use mathlib.Core.Bool.{Bool, true, ◌&&◌}
use mathlib.Core.List.{List, [], ◌∷◌}
use Prim.Native.Nat.{ℕ, zero, suc, ◌+◌, ◌<◌, ◌≤◌}
use native.Mathlib.Nat.{add-zero, add-suc, suc-add, zero-add, le_of_suc-le-suc, not-suc-le-zero}
use native.Mathlib.Omega.{arith}
use lib.ListN.{length, get_or}
use Rattle.base_notation.proofs.Cases.{both}

abbrev pub all_from : {A : Type 0} → (ℕ → A → Bool) → ℕ → List A → Bool
all_from test i [] = true
all_from test i (x ∷ xs) = test i x && all_from test (suc i) xs

module _ {A : Type 0} (test : ℕ → A → Bool) (d : A) where
  -- the same where the indices are counted from i
  from : (xs : List A) (i k : ℕ) → all_from test i xs ≡ true → k < length xs → test (i + k) (get_or xs k d) ≡ true
  from [] i k e h = absurd (not-suc-le-zero h)
  from (x ∷ xs) i zero e h = rw add-zero (both (test i x) _ e).0
  from (x ∷ xs) i (suc k) e h =
      rw (add-suc i k, ← suc-add i k) (from xs (suc i) k (both (test i x) _ e).1 (le_of_suc-le-suc h))

  pub entry : (xs : List A) → all_from test 0 xs ≡ true → (k : ℕ) → k < length xs → test k (get_or xs k d) ≡ true
  entry xs e k h = rw zero-add at (from xs 0 k e h)

-- a match on the number k, in the arm of i
pub arm : (f : ℕ → ℕ) (i : ℕ) {k x : ℕ} → k ≡ i → x ≡ f i → x ≡ f k
arm f i e is = is ∙ ap f (sym e)

-- k is none of the numbers below n
abbrev pub NoneBelow : ℕ → ℕ → Type 0
NoneBelow k zero = Unit {0}
NoneBelow k (suc n) = NoneBelow k n × (k ≡ n → ⊥)

pub past_all : (k n : ℕ) → NoneBelow k n → n ≤ k
past_all k zero none = omega arith
past_all k (suc n) none = let least = past_all k n none.0 in let other = none.1 in omega arith
