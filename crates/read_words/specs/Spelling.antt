-- A word of the input (seq_search_ascii of formatting.c): ASCII letters of either case are the same.
use Rattle.std.specs.Prelude.{◌≡◌, refl, Bool, true, ◌&&◌, List, [], ◌∷◌, ℕ, suc, ◌+◌, ◌<◌, ◌≤◌, eqb, length, None, Some, Option}
use Rattle.base_notation.specs.Choice.{when◌then◌else◌}
use Rattle.base_notation.specs.Text.{byte_at, utf8}
use Rattle.base_chars.specs.Fold.{folded}
use Rattle.template_patterns.specs.Words.{words_of}
use Rattle.template_patterns.specs.declared.tables.WordList.{WordList}
use Rattle.template_patterns.specs.declared.tables.WordList.TheVariants.{MonthsFull, MonthsAbbrev, RomanMonths}
use Rattle.read_words.specs.declared.spelling.Word.{Word}

-- the word is in s from at on, in either case; past the end of s a 0 is read, which no word has
abbrev pub spelled_at : List ℕ → List ℕ → ℕ → Bool
spelled_at [] s at = true
spelled_at (c ∷ w) s at = eqb (folded (byte_at s at)) (folded c) && spelled_at w s (at + 1)

-- a word by its index in its list, and its length
abbrev pub listed : ℕ → ℕ → Option Word
listed index len = Some (record { index = index; len = len })

-- the first of the words that is there, with its index counted from k
abbrev pub first_word : ℕ → List (List ℕ) → List ℕ → ℕ → Option Word
first_word k [] s at = None
first_word k (w ∷ ws) s at = when spelled_at w s at then listed k (length w) else first_word (suc k) ws s at

unfoldable pub word_at : WordList → List ℕ → ℕ → Option Word
word_at list s at = first_word 0 (words_of list) s at

-- a word that was found is one of at most 12, is not empty, and ends within the input
abbrev pub Inside : List ℕ → ℕ → Option Word → Type 0
Inside s at (Some r) = (r.index < 12) × (0 < r.len) × (at + r.len ≤ length s)
Inside s at None = Unit {0}

-- r is the word w, which is found at a place
pub record Found (s : List ℕ) (at : ℕ) (w r : Option Word) : Type 0 where
  pub is : r ≡ w
  pub inside : Inside s at r

-- in either case, the longer Roman month first, and no word at a text's end
pub worked
    : (word_at MonthsAbbrev (utf8 "05 mAy") 3 ≡ listed 4 3) × (word_at RomanMonths (utf8 "VIII") 0 ≡ listed 4 4) × (word_at MonthsFull (utf8 "Ma") 0 ≡ None)
unfolding word_at
worked = (refl, refl, refl)
