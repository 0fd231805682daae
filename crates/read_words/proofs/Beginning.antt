-- The folded beginning of the input, put into nine bytes one after another. Assumes nothing.
-- `put_next`: the byte after the first j, made small, is put after them.
-- `all_put`: when j is the number that is wanted, or all that the input has, the beginning is complete.
use mathlib.Core.Path.{◌≡◌, ◌∙◌, refl, sym, ap}
use mathlib.Core.Bool.{Bool, true, false}
use mathlib.Core.List.{List, [], ◌∷◌, ◌++◌, map-append}
use Prim.Native.Nat.{ℕ, suc, ◌+◌, ◌-◌, ◌<◌, min}
use native.Mathlib.Numerals.{add-one}
use native.Mathlib.Omega.{arith}
use borrow.Author.Tests.{leb-true, leb-false}
use lib.Dec.{leb}
use lib.ListN.{length, take, drop, set, replicate, length-append, length-drop, length-map}
use lib.Seq.{append_snoc, get_or-drop, length-take-le, set-append_seam, take_all, take-suc}
use Rattle.base_chars.specs.Fold.{folded}
use Rattle.base_notation.specs.Text.{byte_at}
use Rattle.read_words.specs.FoldOnce.{beginning, in_nine}

-- a byte in place of the first 0
put_after : (t : List ℕ) (b : ℕ) → length t < 9 → set (in_nine t) (length t) b ≡ in_nine (t ++ (b ∷ []))
put_after t b h =
    let zeros = 9 - suc (length t) in
    let one_zero : 9 - length t ≡ suc zeros = omega arith in
    let one_longer : length (t ++ (b ∷ [])) ≡ suc (length t) = length-append t (b ∷ []) ∙ omega arith in
    rw (one_zero, one_longer) (set-append_seam t 0 (replicate zeros 0) b ∙ sym (append_snoc t b (replicate zeros 0)))

module _ (s : List ℕ) (at : ℕ) where
  -- no more bytes than are left
  all_left : (n : ℕ) → beginning (min n (length s - at)) s at ≡ beginning n s at
  all_left n = split (leb n (length s - at)) refl
    where
      left : length (drop at s) ≡ length s - at
      left = length-drop at s

      split : (b : Bool) → leb n (length s - at) ≡ b → beginning (min n (length s - at)) s at ≡ beginning n s at
      split true e =
          let few = leb-true n (length s - at) e in
          let all : min n (length s - at) ≡ n = omega arith in
          rw all
      split false e =
          let many = leb-false n (length s - at) e in
          rw (take_all (min n (length s - at)) (drop at s) (omega (arith, left)), take_all n (drop at s) (omega (arith, left)))

  pub all_put : (most n j : ℕ) → n ≡ min most (length s - at) → j ≡ n → in_nine (beginning j s at) ≡ in_nine (beginning most s at)
  all_put most n j e q = rw (q, e, all_left most)

  module _ (j : ℕ) (h : at + j < length s) where
    -- the byte after the first j
    abbrev b : ℕ
    b = folded (byte_at s (at + j))

    one_more : beginning (j + 1) s at ≡ beginning j s at ++ (b ∷ [])
    one_more =
        let left = length-drop at s in
        rw (add-one j, take-suc (drop at s) j 0 (omega arith), get_or-drop at s j 0) (map-append folded (take j (drop at s)) _)

    so_many : length (beginning j s at) ≡ j
    so_many =
        let left = length-drop at s in
        length-map (take j (drop at s)) folded ∙ length-take-le j (drop at s) (omega arith)

    pub put_next : (start : List ℕ) (v : ℕ) → j < 9 → start ≡ in_nine (beginning j s at) → v ≡ b → set start j v ≡ in_nine (beginning (j + 1) s at)
    put_next start v l e q =
        let first = beginning j s at in
        rw (e, q)
        (ap (λ (n : ℕ). set (in_nine first) n b) (sym so_many) ∙ put_after first b (omega (arith, so_many)) ∙ ap in_nine (sym one_more))
