-- The words of a list, searched in the rows of its table. Assumes nothing.
-- `laid`: a list's table has 108 bytes and a row for each of its words: at most twelve words of at most nine bytes.
-- `inside`: a word that the search of the input finds is inside the input.
-- `found_at`: a word that equals what the search finds is found at that place, inside the input.
-- `past_end`, `no_space_there`: no word is past the end, and no space is where a word is.
-- `from`: what the search of the beginning finds from row k on.
-- `no_space`, `over`: no word begins with a space, nor is any word past the last row.
-- `searched`: what is found in the folded beginning, in nine bytes, is what is found in the input.
-- `found`, `next`: the bytes begin with the word of row k, or what is found is found from the next row on.
use Rattle.std.specs.Prelude.{None, Some, Option}
use mathlib.Core.Path.{◌≡◌, ◌∙◌, refl, sym, ap, subst}
use mathlib.Core.Bool.{Bool, true, false, not, ◌&&◌, false≢true}
use mathlib.Core.List.{List, [], ◌∷◌, map}
use Prim.Native.Nat.{ℕ, suc, ◌+◌, ◌≤◌, ◌<◌, max}
use native.Mathlib.Numerals.{add-one}
use native.Mathlib.Omega.{arith}
use borrow.Author.Tests.{eqb-true, eqb-false, leb-true, ltb-true, ltb-false, ne_eqb, not-true}
use lib.Dec.{eqb, leb, ltb}
use lib.ListN.{length, get_or, drop, replicate, drop_of_length-le, length-map, get_or-eq_default}
use lib.Seq.{drop-cons}
use Rattle.base_chars.specs.Fold.{folded}
use Rattle.base_chars.specs.Range.{◌‥◌, ◌∈◌}
use Rattle.base_chars.proofs.Ranges.{bounds}
use Rattle.base_notation.specs.Text.{byte_at}
use Rattle.base_notation.proofs.Bytes.{byte_within}
use Rattle.base_notation.proofs.Cases.{both, by_if}
use Rattle.base_notation.proofs.Table.{all_from, entry}
use Rattle.template_patterns.specs.Search.{matches_at, length_at}
use Rattle.template_patterns.specs.Words.{words_of, small_words, longest, word_table}
use Rattle.template_patterns.specs.declared.tables.WordList.{WordList}
use Rattle.template_patterns.specs.declared.tables.WordList.TheVariants.{MonthsFull, MonthsAbbrev, DaysFull, DaysAbbrev, AmPm, AmPmLong, AdBc, AdBcLong, RomanMonths}
use Rattle.read_words.specs.FoldOnce.{beginning, first_in, in_nine, word_in, row_of}
use Rattle.read_words.specs.Spelling.{listed, spelled_at, first_word, word_at, Inside, Found}
use Rattle.read_words.specs.declared.spelling.Word.{Word}
use Rattle.read_words.proofs.FoldOnce.{fold_once, same_word}

-- two words are the same
abbrev pub same : List ℕ → List ℕ → Bool
same [] [] = true
same [] (b ∷ t) = false
same (a ∷ s) [] = false
same (a ∷ s) (b ∷ t) = eqb a b && same s t

pub same_is : (s t : List ℕ) → same s t ≡ true → s ≡ t
same_is [] [] e = refl
same_is [] (b ∷ t) e = absurd (false≢true e)
same_is (a ∷ s) [] e = absurd (false≢true e)
same_is (a ∷ s) (b ∷ t) e =
    let parts = both (eqb a b) _ e in
    let first : a ≡ b = eqb-true _ _ parts.0 in
    let rest : s ≡ t = same_is s t parts.1 in
    cc

-- no byte of the word is 0, which is read past the end
abbrev spelled_out : List ℕ → Bool
spelled_out [] = true
spelled_out (c ∷ w) = not (eqb (folded c) 0) && spelled_out w

-- a word is not empty and has no such byte
abbrev proper : ℕ → List ℕ → Bool
proper k w = ltb 0 (length w) && spelled_out w

-- a word begins with a byte above the space
abbrev begins : ℕ → List ℕ → Bool
begins k w = ltb 32 (byte_at w 0)

-- row k has the word k of the list in small letters, or none
abbrev laid_out : WordList → ℕ → ℕ → Bool
laid_out list k x = same (row_of (word_table list) k) (get_or (small_words list) k [])

-- a list and its table, by one test that computes
abbrev fine : WordList → Bool
fine list =
    eqb (length (word_table list)) 108
    && (leb (length (words_of list)) 12
    && (leb (longest (words_of list)) 9
    && (all_from (laid_out list) 0 (replicate 12 0) && (all_from proper 0 (words_of list) && all_from begins 0 (small_words list)))))

all_fine : (list : WordList) → fine list ≡ true
unfolding word_table row_of
all_fine MonthsFull = refl
all_fine MonthsAbbrev = refl
all_fine DaysFull = refl
all_fine DaysAbbrev = refl
all_fine AmPm = refl
all_fine AmPmLong = refl
all_fine AdBc = refl
all_fine AdBcLong = refl
all_fine RomanMonths = refl

-- the same, fact by fact
pub record Laid (list : WordList) : Type 0 where
  pub long : length (word_table list) ≡ 108
  pub few : length (words_of list) ≤ 12
  pub short : longest (words_of list) ≤ 9
  pub row : (k : ℕ) → k < 12 → row_of (word_table list) k ≡ get_or (small_words list) k []
  pub words : all_from proper 0 (words_of list) ≡ true
  pub small : all_from begins 0 (small_words list) ≡ true

pub laid : (list : WordList) → Laid list
laid list =
    let on_length = both (eqb (length (word_table list)) 108) _ (all_fine list) in
    let on_count = both (leb (length (words_of list)) 12) _ on_length.1 in
    let on_longest = both (leb (longest (words_of list)) 9) _ on_count.1 in
    let on_rows = both (all_from (laid_out list) 0 (replicate 12 0)) _ on_longest.1 in
    let on_words = both (all_from proper 0 (words_of list)) _ on_rows.1 in
    record {
      long = eqb-true _ _ on_length.0;
      few = leb-true _ _ on_count.0;
      short = leb-true _ _ on_longest.0;
      row = λ k h. same_is _ _ (entry (laid_out list) 0 (replicate 12 0) on_rows.0 k h);
      words = on_words.0;
      small = on_words.1;
    }

-- ---- the search of the input
module _ (s : List ℕ) where
  -- a byte that is not read as 0 is within the text
  in_text : (at c : ℕ) → not (eqb (folded c) 0) ≡ true → folded (byte_at s at) ≡ folded c → at < length s
  in_text at c n e = byte_within s at (λ z. eqb-false _ _ (not-true _ n) (sym e ∙ ap folded z))

  -- a word that is there ends within the text
  spelled_within : (w : List ℕ) (at : ℕ) → spelled_out w ≡ true → spelled_at w s at ≡ true → at + length w ≤ max at (length s)
  spelled_within [] at p e = omega arith
  spelled_within (c ∷ w) at p e =
      let no_zero = both (not (eqb (folded c) 0)) _ p in
      let there = both (eqb (folded (byte_at s at)) (folded c)) _ e in
      omega (arith, in_text at c no_zero.0 (eqb-true _ _ there.0), spelled_within w (at + 1) no_zero.1 there.1)

  module _ (at : ℕ) where
    first_inside : (ws : List (List ℕ)) (k : ℕ) → k + length ws ≤ 12 → all_from proper k ws ≡ true → Inside s at (first_word k ws s at)
    first_inside [] k h p = tt
    first_inside (w ∷ ws) k h p =
        let on_word = both (proper k w) _ p in
        let on_length = both (ltb 0 (length w)) _ on_word.0 in
        let some : 0 < length w = ltb-true _ _ on_length.0 in
        by_if (Inside s at) (spelled_at w s at) _ _ (λ e. (omega arith, some, omega (arith, spelled_within w at on_length.1 e)))
        (λ e. first_inside ws (suc k) (omega arith) on_word.1)

    pub inside : (list : WordList) → Inside s at (word_at list s at)
    unfolding word_at
    inside list = first_inside (words_of list) 0 (omega (arith, (laid list).few)) (laid list).words

    -- no word is past the end
    pub past_end : (list : WordList) → length s ≤ at → None ≡ word_at list s at
    past_end list h = past (word_at list s at) (inside list)
      where
        past : (r : Option Word) → Inside s at r → None ≡ r
        past (Some w) within = absurd (omega (arith, within.1, within.2))
        past None within = refl

    -- a word that is there begins with a byte above the space
    begins_above : (w : List ℕ) → 32 < byte_at (map folded w) 0 → spelled_at w s at ≡ true → 32 < folded (byte_at s at)
    begins_above [] h e = absurd (omega arith)
    begins_above (c ∷ w) h e = rw (eqb-true (folded (byte_at s at)) (folded c) (both _ _ e).0) h

    first_above
        : (ws : List (List ℕ)) (k j len : ℕ) → all_from begins k (map (map folded) ws) ≡ true
        → first_word k ws s at ≡ listed j len → 32 < folded (byte_at s at)
    first_above [] k j len p = λ e. absurd (let z : ◌≡◌ {A = ℕ} 0 1 = cc in omega arith)
    first_above (w ∷ ws) k j len p =
        let on_word = both (begins k (map folded w)) _ p in
        by_if (λ (r : Option Word). r ≡ listed j len → 32 < folded (byte_at s at)) (spelled_at w s at) _ _
        (λ there e. begins_above w (ltb-true _ _ on_word.0) there)
        (λ there e. first_above ws (suc k) j len on_word.1 e)

    pub no_space_there : (list : WordList) (k len : ℕ) → word_at list s at ≡ listed k len → 32 < byte_at s at
    unfolding word_at
    no_space_there list k len e =
        let above = first_above (words_of list) 0 k len (laid list).small e in
        by_if (λ (b : ℕ). 32 < b → 32 < byte_at s at) (byte_at s at ∈ 65 ‥ 90) _ _
        (λ capital h. omega (arith, bounds (65 ‥ 90) (byte_at s at) capital)) (λ other h. h) above

-- ---- the search of its beginning
module _ (t : List ℕ) where
  -- no word begins with a space
  not_there : byte_at t 0 ≡ 32 → (w : List ℕ) → 32 < byte_at w 0 → matches_at w t 0 ≡ false
  not_there h [] l = absurd (omega arith)
  not_there h (c ∷ w) l = rw (ne_eqb (byte_at t 0) c (λ e. omega arith))

  none : byte_at t 0 ≡ 32 → (ws : List (List ℕ)) (k : ℕ) → all_from begins k ws ≡ true → first_in k ws t ≡ None
  none h [] k p = refl
  none h (w ∷ ws) k p =
      let on_word = both (begins k w) _ p in
      rw (not_there h w (ltb-true _ _ on_word.0)) (none h ws (suc k) on_word.1)

  module _ (list : WordList) where
    pub no_space : byte_at t 0 ≡ 32 → None ≡ word_in list t
    unfolding word_in
    no_space h = sym (none h (small_words list) 0 (laid list).small)

    -- what the search finds from row k on
    abbrev pub from : ℕ → Option Word
    from k = first_in k (drop k (small_words list)) t

    pub over : word_in list t ≡ from 12 → None ≡ word_in list t
    over e =
        let few : length (small_words list) ≤ 12 = rw (length-map (words_of list) (map folded)) (laid list).few in
        sym (e ∙ rw (drop_of_length-le (small_words list) few))

    module _ (k n : ℕ) (h : k < 12) (is : n ≡ length_at (row_of (word_table list) k) t 0) where
      -- the word k, empty past the last
      abbrev w : List ℕ
      w = get_or (small_words list) k []

      length_is : n ≡ length_at w t 0
      length_is = is ∙ ap (λ (v : List ℕ). length_at v t 0) ((laid list).row k h)

      -- past the last word the row is empty
      no_word : length (small_words list) ≤ k → w ≡ []
      no_word l = get_or-eq_default (small_words list) [] l

      a_word : k < length (small_words list) → 0 < length w
      a_word l =
          let above : 32 < byte_at w 0 = ltb-true _ _ (entry begins [] (small_words list) (laid list).small k l) in
          byte_within w 0 (λ z. omega arith)

      -- the three cases: the word of row k is there, it is not, or row k is past the last word
      by_row
          : {P : Type 0} → (k < length (small_words list) → matches_at w t 0 ≡ true → n ≡ length w → P)
          → (k < length (small_words list) → matches_at w t 0 ≡ false → n ≡ 0 → P) → (length (small_words list) ≤ k → n ≡ 0 → P) → P
      by_row {P} hit miss past =
          (elim (ltb k (length (small_words list))) as (λ b. ltb k (length (small_words list)) ≡ b → P) [
            | true ↦ λ l.
                (elim (matches_at w t 0) as (λ b. matches_at w t 0 ≡ b → P) [
                  | true ↦ λ e. hit (ltb-true _ _ l) e (rw e at length_is)
                  | false ↦ λ e. miss (ltb-true _ _ l) e (rw e at length_is)
                ]) refl
            | false ↦ λ l. let past_last = ltb-false _ _ l in past past_last (rw (no_word past_last) at length_is)
          ]) refl

      pub found : 0 < n → word_in list t ≡ from k → listed k n ≡ word_in list t
      found p q =
          by_row (λ l e m. ap (listed k) m ∙ sym (q ∙ rw (drop-cons (small_words list) k [] l, e))) (λ l e m. absurd (omega arith))
          (λ l m. absurd (omega arith))

      pub next : n ≤ 0 → from k ≡ from (k + 1)
      next p =
          by_row (λ l e m. absurd (omega (arith, a_word l))) (λ l e m. rw (drop-cons (small_words list) k [] l, e, add-one k))
          (λ l m. rw (drop_of_length-le (small_words list) l, drop_of_length-le (small_words list) {i = k + 1} (omega arith)))

-- a word that is found, and that it is inside the input
pub found_at
    : (list : WordList) (s : List ℕ) (at : ℕ) {r : (Option Word)} → r ≡ word_at list s at → Found s at (word_at list s at) r
found_at list s at e = record { is = e; inside = subst (Inside s at) (sym e) (inside s at list) }

-- what is found in the folded beginning, in nine bytes, is what is found in the input
pub searched
    : (list : WordList) (s : List ℕ) (at n : ℕ) (start : List ℕ) (r : Option Word) → n ≡ longest (words_of list) → start ≡ in_nine (beginning n s at) → r ≡ word_in list start
    → Found s at (word_at list s at) r
searched list s at n start r m b e =
    let is : r ≡ word_at list s at = e ∙ ap (word_in list) (b ∙ ap (λ (k : ℕ). in_nine (beginning k s at)) m) ∙ same_word list _ ∙ fold_once.same list s at in
    found_at list s at is
