-- Texts put one after the other, and what is left off where a buffer ends.
-- `put_then`: a text put after another is the two put as one. `put_size`: the buffer keeps its size.
-- `put_fitting`: to put as many bytes as fit is to put the text. `put_none`: a text past the end changes nothing.
-- `sets_paste`: bytes copied as a whole are as if stored one by one. Assumes nothing.
use mathlib.Core.Path.{◌≡◌, ◌∙◌, refl, sym, ap}
use mathlib.Core.Bool.{Bool, true, false}
use mathlib.Core.List.{List, [], ◌∷◌, ◌++◌}
use Prim.Native.Nat.{ℕ, zero, suc, ◌+◌, ◌-◌, ◌≤◌, min}
use native.Mathlib.Nat.{add-zero, add-suc, suc-add}
use native.Mathlib.Omega.{arith}
use borrow.Author.Tests.{leb-true, leb-false}
use lib.Dec.{leb}
use lib.ListN.{length, take, drop, set, length-append, length-set}
use lib.Seq.{sets, sets-eq, paste, length-sets, set_out}
use Rattle.std.proofs.lemmas.List.{length-take-le}
use Rattle.line_buffers.specs.Output.{Put}

-- past the end nothing is stored
sets_out : (l : List ℕ) (i : ℕ) (vs : List ℕ) → length l ≤ i → sets l i vs ≡ l
sets_out l i [] h = refl
sets_out l i (v ∷ vs) h = rw (set_out l i v h) (sets_out l (suc i) vs (omega arith))

sets-append : (l : List ℕ) (i : ℕ) (xs ys : List ℕ) → sets (sets l i xs) (i + length xs) ys ≡ sets l i (xs ++ ys)
sets-append l i [] ys = rw add-zero
sets-append l i (x ∷ xs) ys = rw (add-suc i (length xs), ← suc-add i (length xs)) (sets-append (set l i x) (suc i) xs ys)

-- only what fits is stored
sets_fitting : (l : List ℕ) (i : ℕ) (vs : List ℕ) (n : ℕ) → min (length vs) (length l - i) ≤ n → sets l i (take n vs) ≡ sets l i vs
sets_fitting l i [] zero h = refl
sets_fitting l i [] (suc n) h = refl
sets_fitting l i (v ∷ vs) zero h = sym (sets_out l i (v ∷ vs) (omega arith))
sets_fitting l i (v ∷ vs) (suc n) h = sets_fitting (set l i v) (suc i) vs n (rw length-set (omega arith))

-- bytes copied into a buffer as a whole, where they fit, are stored one by one
pub sets_paste : (l s : List ℕ) (i n : ℕ) → n ≤ length s → i + n ≤ length l → paste l i s n ≡ sets l i (take n s)
sets_paste l s i n h k =
    let e : length (take n s) ≡ n = length-take-le n s h in
    sym (sets-eq (take n s) l i (omega arith) ∙ ap (λ (m : ℕ). take i l ++ take n s ++ drop (i + m) l) e)

module _ (l : List ℕ) (at : ℕ) where
  pub put_size : {r : ℕ} {vs l' : List ℕ} → Put l at vs l' r → length l' ≡ length l
  put_size {r} {vs} p = ap length p.is ∙ length-sets l at vs

  -- as many bytes put as fit are all that the text puts
  pub put_fitting : (vs : List ℕ) (n : ℕ) → n ≡ min (length vs) (length l - at) → Put l at vs (sets l at (take n vs)) (at + n)
  put_fitting vs n e = record { is = sets_fitting l at vs n (omega arith); next = ap (λ (k : ℕ). at + k) e }

  pub put_none : (vs : List ℕ) → length l ≤ at → Put l at vs l at
  put_none vs h = record { is = sym (sets_out l at vs h); next = omega arith }

  -- a text put after another: the two as one
  pub put_then : {m r : ℕ} {xs ys l₁ l₂ : List ℕ} → Put l at xs l₁ m → Put l₁ m ys l₂ r → Put l at (xs ++ ys) l₂ r
  put_then {m} {r} {xs} {ys} {l₁} {l₂} p q =
      let size = put_size p in
      record {
        is = q.is ∙ after (leb (at + length xs) (length l)) refl ∙ sets-append l at xs ys;
        next = rw length-append (omega (arith, p.next, q.next));
      }
    where
      after : (t : Bool) → leb (at + length xs) (length l) ≡ t → sets l₁ m ys ≡ sets (sets l at xs) (at + length xs) ys
      after true e =
          let m_is : m ≡ at + length xs = omega (arith, p.next, leb-true) in
          rw (p.is, m_is)
      after false e =
          let size = length-sets l at xs in
          rw p.is (sets_out (sets l at xs) m ys (omega (arith, p.next, leb-false)) ∙ sym (sets_out (sets l at xs) (at + length xs) ys (omega (arith, leb-false))))
