-- The folded beginning of the input has the word that the input has. Assumes nothing.
-- `fold_once`: of every list, at every place of every input: also past its end, and where the input ends inside a word.
-- `same_word`: bytes with 0s after them, nine in all, have the word that the bytes alone have.
use mathlib.Core.Path.{◌≡◌, ◌∙◌, refl, ap}
use mathlib.Core.List.{List, [], ◌∷◌, ◌++◌, map}
use Prim.Native.Nat.{ℕ, zero, suc, ◌+◌, ◌-◌, ◌<◌, ◌≤◌}
use native.Mathlib.Nat.{add-zero, le_refl}
use native.Mathlib.Omega.{arith}
use lib.ListN.{length, take, drop, replicate, length-map, get_or-map}
use lib.Seq.{get_or-drop, get_or-take}
use Rattle.base_chars.specs.Fold.{folded}
use Rattle.base_notation.specs.Text.{byte_at}
use Rattle.template_patterns.specs.Search.{matches_at}
use Rattle.template_patterns.specs.Words.{words_of, small_words, longest}
use Rattle.template_patterns.specs.declared.tables.WordList.{WordList}
use Rattle.read_words.specs.FoldOnce.{beginning, first_in, word_in, in_nine, FoldOnce}
use Rattle.read_words.specs.Spelling.{spelled_at, first_word, word_at}

module _ (n : ℕ) (s : List ℕ) (at : ℕ) where
  -- byte i of the beginning is byte i after the place, made small; past the end of the input both are 0
  folded_byte : (i : ℕ) → i < n → byte_at (beginning n s at) i ≡ folded (byte_at s (at + i))
  folded_byte i h = get_or-map folded (take n (drop at s)) i 0 ∙ ap folded (get_or-take n (drop at s) i 0 h ∙ get_or-drop at s i 0)

  -- a word of at most n bytes, from its byte i on
  same_spelling : (w : List ℕ) (i : ℕ) → i + length w ≤ n → matches_at (map folded w) (beginning n s at) i ≡ spelled_at w s (at + i)
  same_spelling [] i h = refl
  same_spelling (c ∷ w) i h =
      let next : at + i + 1 ≡ at + (i + 1) = omega arith in
      rw (folded_byte i (omega arith), next, same_spelling w (i + 1) (omega arith))

  same_first : (ws : List (List ℕ)) (k : ℕ) → longest ws ≤ n → first_in k (map (map folded) ws) (beginning n s at) ≡ first_word k ws s at
  same_first [] k h = refl
  same_first (w ∷ ws) k h =
      let spelling = rw (add-zero at) at (same_spelling w 0 (omega arith)) in
      rw (spelling, length-map w folded, same_first ws (suc k) (omega arith))

pub fold_once : FoldOnce
unfolding word_in word_at
fold_once = record { same = λ list s at. same_first (longest (words_of list)) s at (words_of list) 0 (le_refl _) }

-- ---- 0s after the bytes
zeros : (n i : ℕ) → byte_at (replicate n 0) i ≡ 0
zeros zero i = refl
zeros (suc n) zero = refl
zeros (suc n) (suc i) = zeros n i

-- a byte past t is 0, whether 0s follow or nothing does
before_zeros : (t : List ℕ) (n i : ℕ) → byte_at (t ++ replicate n 0) i ≡ byte_at t i
before_zeros [] n i = zeros n i
before_zeros (b ∷ t) n zero = refl
before_zeros (b ∷ t) n (suc i) = before_zeros t n i

module _ (t u : List ℕ) (same : (i : ℕ) → byte_at t i ≡ byte_at u i) where
  same_match : (w : List ℕ) (i : ℕ) → matches_at w t i ≡ matches_at w u i
  same_match [] i = refl
  same_match (c ∷ w) i = rw (same i, same_match w (i + 1))

  same_found : (ws : List (List ℕ)) (k : ℕ) → first_in k ws t ≡ first_in k ws u
  same_found [] k = refl
  same_found (w ∷ ws) k = rw (same_match w 0, same_found ws (suc k))

pub same_word : (list : WordList) (t : List ℕ) → word_in list (in_nine t) ≡ word_in list t
unfolding word_in
same_word list t = same_found (in_nine t) t (before_zeros t (9 - length t)) (small_words list) 0
