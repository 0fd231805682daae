-- Words that are read as they were written, in whatever case, from any list. Assumes nothing.
-- `Written`: what holds of the text of every piece. `ascii_first`: an ASCII byte before a text in UTF-8 leaves it so.
-- `word_of`: a word of a list in small letters. `differs`: two words differ at a place that both have.
-- `Fit`: a word of a list is ASCII, begins with a letter, and differs so from each word before it; `fit`, `is_fit`: the
-- same as a test.
-- Of what has the folded bytes of such a word:
-- `word_written`, `word_stops`, `word_size`: it is `Written`, begins with no digit, and is no longer than the list's
-- longest word.
-- `word_read`: it is found in the list, whatever follows it; no word before it begins it or is begun by it.
use mathlib.Core.Path.{◌≡◌, ◌∙◌, refl, sym, ap}
use mathlib.Core.Bool.{Bool, true, false, not, ◌&&◌, ◌||◌, false≢true}
use mathlib.Core.List.{List, [], ◌∷◌, ◌++◌, map, map-append}
use Prim.Native.Nat.{ℕ, zero, suc, ◌+◌, ◌-◌, ◌≤◌}
use native.Mathlib.Nat.{add-zero, add-suc, suc-add, zero-add}
use native.Mathlib.Omega.{arith}
use borrow.Author.Tests.{eq-eqb, leb-true}
use lib.Dec.{eqb, leb}
use lib.ListN.{length, take, drop, get_or, length-map}
use lib.Seq.{drop-drop, get_or-drop, take-append-add}
use Rattle.base_notation.specs.Text.{byte_at}
use Rattle.base_notation.proofs.Cases.{both}
use Rattle.base_chars.specs.Class.{letter, is_letter, class_of}
use Rattle.base_chars.specs.Fold.{folded}
use Rattle.base_chars.specs.Range.{◌‥◌}
use Rattle.base_chars.specs.Utf8.{well_formed}
use Rattle.base_chars.proofs.Classes.{the_class}
use Rattle.base_chars.proofs.Folds.{fold_up, fold_class}
use Rattle.base_chars.proofs.Ranges.{inside}
use Rattle.base_chars.proofs.WellFormed.{ascii_run, empty_text}
use Rattle.base_strtol.specs.Runs.{leading, digits}
use Rattle.template_patterns.specs.Search.{matches_at}
use Rattle.template_patterns.specs.Words.{words_of, small_words, longest}
use Rattle.template_patterns.specs.declared.tables.WordList.{WordList}
use Rattle.read_words.specs.FoldOnce.{beginning, first_in, word_in}
use Rattle.read_words.specs.Spelling.{listed, word_at}
use Rattle.read_words.proofs.FoldOnce.{fold_once}
use Rattle.readback.proofs.Ahead.{inked}

pub record Written (u : List ℕ) : Type 0 where
  pub text : well_formed u ≡ true
  pub ink : inked u ≡ true
  pub ascii : (v : List ℕ) → byte_at (u ++ v) 0 ≤ 127

pub ascii_first : (b : ℕ) (u : List ℕ) → b ≤ 127 → well_formed u ≡ true → well_formed (b ∷ u) ≡ true
ascii_first b u h e = sym (ascii_run 1 (b ∷ u) (rw (inside (0 ‥ 127) b (omega arith) h))) ∙ e

-- all bytes are ASCII
abbrev all_ascii : List ℕ → Bool
all_ascii [] = true
all_ascii (b ∷ u) = leb b 127 && all_ascii u

-- the first byte is a letter
abbrev lettered : List ℕ → Bool
lettered [] = false
lettered (b ∷ u) = is_letter b

abbrev differs : List ℕ → List ℕ → Bool
differs [] w = false
differs (a ∷ v) [] = false
differs (a ∷ v) (b ∷ w) = not (eqb b a) || differs v w

-- each of the first k words differs from w
abbrev apart_before : List (List ℕ) → ℕ → List ℕ → Bool
apart_before [] k w = false
apart_before (v ∷ ws) zero w = true
apart_before (v ∷ ws) (suc k) w = differs v w && apart_before ws k w

abbrev pub word_of : WordList → ℕ → List ℕ
word_of list k = get_or (small_words list) k []

pub record Fit (list : WordList) (k : ℕ) : Type 0 where
  pub begins : lettered (word_of list k) ≡ true
  pub ascii : all_ascii (word_of list k) ≡ true
  pub short : length (word_of list k) ≤ longest (words_of list)
  pub apart : apart_before (small_words list) k (word_of list k) ≡ true

-- the same as a test
abbrev pub fit : WordList → ℕ → Bool
fit list k =
    let w = word_of list k in
    lettered w && (all_ascii w && (leb (length w) (longest (words_of list)) && apart_before (small_words list) k w))

pub is_fit : (list : WordList) (k : ℕ) → fit list k ≡ true → Fit list k
is_fit list k e =
    let w = word_of list k in
    let first = both (lettered w) _ e in
    let second = both (all_ascii w) _ first.1 in
    let third = both (leb (length w) (longest (words_of list))) _ second.1 in
    record { begins = first.0; ascii = second.0; short = leb-true _ _ third.0; apart = third.1 }

-- the search in a text t
module _ (t : List ℕ) where
  byte_here : (at : ℕ) {b : ℕ} {u : List ℕ} → drop at t ≡ b ∷ u → byte_at t at ≡ b
  byte_here at {b} e = let first : byte_at t (at + 0) ≡ b = rw (← get_or-drop at t 0 0, e) in rw (add-zero at) at first

  rest_here : (at : ℕ) {b : ℕ} {u : List ℕ} → drop at t ≡ b ∷ u → drop (at + 1) t ≡ u
  rest_here at e = rw (← drop-drop 1 at t, e)

  matched : (w rest : List ℕ) (at : ℕ) → drop at t ≡ w ++ rest → matches_at w t at ≡ true
  matched [] rest at e = refl
  matched (b ∷ w) rest at e = rw (byte_here at e, eq-eqb b b refl) (matched w rest (at + 1) (rest_here at e))

  unmatched : (v w rest : List ℕ) (at : ℕ) → differs v w ≡ true → drop at t ≡ w ++ rest → matches_at v t at ≡ false
  unmatched [] w rest at d e = absurd (false≢true d)
  unmatched (a ∷ v) [] rest at d e = absurd (false≢true d)
  unmatched (a ∷ v) (b ∷ w) rest at d e = rw (byte_here at e) (by (eqb b a) d (λ later. unmatched v w rest (at + 1) later (rest_here at e)))
    where
      by : (same : Bool) → (not same || differs v w) ≡ true → (differs v w ≡ true → matches_at v t (at + 1) ≡ false)
          → (same && matches_at v t (at + 1)) ≡ false
      by true d further = further d
      by false d further = refl

  first_found : (ws : List (List ℕ)) (i k : ℕ) (rest : List ℕ) → apart_before ws k (get_or ws k []) ≡ true → t ≡ get_or ws k [] ++ rest
      → first_in i ws t ≡ listed (i + k) (length (get_or ws k []))
  first_found [] i k rest a e = absurd (false≢true a)
  first_found (v ∷ ws) i zero rest a e = rw (matched v rest 0 e, add-zero i)
  first_found (v ∷ ws) i (suc k) rest a e =
      let tests = both (differs v (get_or ws k [])) _ a in
      rw (unmatched v (get_or ws k []) rest 0 tests.0 e, add-suc i k, ← suc-add i k) (first_found ws (suc i) k rest tests.1 e)

-- bytes that are ASCII once they are folded were ASCII before
ascii_text : (u : List ℕ) → all_ascii (map folded u) ≡ true → well_formed u ≡ true
ascii_text [] e = empty_text
ascii_text (b ∷ u) e =
    let tests = both (leb (folded b) 127) _ e in
    ascii_first b u (omega (arith, fold_up b, leb-true (folded b) 127 tests.0)) (ascii_text u tests.1)

-- what begins with a letter once it is folded did so before
first_letter : (b : ℕ) → is_letter (folded b) ≡ true → class_of b ≡ letter
first_letter b e = sym (fold_class b) ∙ the_class _ letter e

letter_inked : (u : List ℕ) → lettered (map folded u) ≡ true → inked u ≡ true
letter_inked [] e = absurd (false≢true e)
letter_inked (b ∷ u) e = rw (first_letter b e)

letter_ascii : (u v : List ℕ) → lettered (map folded u) ≡ true → all_ascii (map folded u) ≡ true → byte_at (u ++ v) 0 ≤ 127
letter_ascii [] v e a = absurd (false≢true e)
letter_ascii (b ∷ u) v e a = omega (arith, fold_up b, leb-true (folded b) 127 (both (leb (folded b) 127) _ a).0)

letter_stops : (u v : List ℕ) → lettered (map folded u) ≡ true → digits (u ++ v) ≡ 0
unfolding leading
letter_stops [] v e = absurd (false≢true e)
letter_stops (b ∷ u) v e = rw (first_letter b e)

-- u has the folded bytes of the word k of a list
module _ {list : WordList} {k : ℕ} (ok : Fit list k) (u : List ℕ) (same : map folded u ≡ word_of list k) where
  pub word_written : Written u
  word_written = record {
    text = ascii_text u (rw same ok.ascii);
    ink = letter_inked u (rw same ok.begins);
    ascii = λ v. letter_ascii u v (rw same ok.begins) (rw same ok.ascii);
  }

  pub word_stops : (v : List ℕ) → digits (u ++ v) ≡ 0
  word_stops v = letter_stops u v (rw same ok.begins)

  size : length (word_of list k) ≡ length u
  size = ap length (sym same) ∙ length-map u folded

  pub word_size : length u ≤ longest (words_of list)
  word_size = omega (arith, size, ok.short)

  module _ (s v : List ℕ) (at : ℕ) (here : drop at s ≡ u ++ v) where
    -- what a search gets: the word and some of what follows it
    abbrev more : ℕ
    more = longest (words_of list) - length u

    taken : take (longest (words_of list)) (u ++ v) ≡ u ++ take more v
    taken =
        let enough : longest (words_of list) ≡ length u + more = omega (arith, word_size) in
        ap (λ (n : ℕ). take n (u ++ v)) enough ∙ take-append-add u v more

    begun : beginning (longest (words_of list)) s at ≡ word_of list k ++ map folded (take more v)
    begun = rw (here, taken) (map-append folded u (take more v) ∙ rw same)

    pub word_read : word_at list s at ≡ listed k (length u)
    unfolding word_in
    word_read =
        sym (fold_once.same list s at)
        ∙ first_found _ (small_words list) 0 k (map folded (take more v)) ok.apart begun
        ∙ rw (zero-add k, size)
