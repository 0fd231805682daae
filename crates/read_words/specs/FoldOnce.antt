-- Fold once: the beginning of the input is folded once, and a word of a list is searched in those bytes alone. The words
-- of a list are kept in small letters.
use Rattle.std.specs.Prelude.{◌≡◌, refl, List, [], ◌∷◌, ◌++◌, map, ℕ, suc, ◌-◌, ◌*◌, eqb, length, take, drop, replicate, None, Option, Some, ltb}
use Prim.Native.Char.{code}
use Rattle.base_notation.specs.Choice.{when◌then◌else◌}
use Rattle.base_notation.specs.Text.{utf8}
use Rattle.base_chars.specs.Fold.{folded}
use Rattle.template_patterns.specs.Search.{matches_at, length_at}
use Rattle.template_patterns.specs.Words.{words_of, small_words, longest}
use Rattle.template_patterns.specs.declared.tables.WordList.{WordList}
use Rattle.template_patterns.specs.declared.tables.WordList.TheVariants.{MonthsFull, MonthsAbbrev, AmPm}
use Rattle.read_words.specs.Spelling.{listed, word_at}
use Rattle.read_words.specs.declared.spelling.Word.{Word}

-- the bytes from a place on, at most n of them, with capital letters made small
abbrev pub beginning : ℕ → List ℕ → ℕ → List ℕ
beginning n s at = map folded (take n (drop at s))

-- the bytes that a list needs: as many as its longest word has
abbrev pub beginning_for : WordList → List ℕ → ℕ → List ℕ
beginning_for list s at = beginning (longest (words_of list)) s at

-- the first of the words that t begins with, with its index counted from k
abbrev pub first_in : ℕ → List (List ℕ) → List ℕ → Option Word
first_in k [] t = None
first_in k (w ∷ ws) t = when matches_at w t 0 then listed k (length w) else first_in (suc k) ws t

-- the length of a word that is not empty, if t begins with it
abbrev pub length_there : List ℕ → List ℕ → Option ℕ
length_there w t = let n = length_at w t 0 in when ltb 0 n then Some n else None

-- the first word of a list that t begins with, where t has no capital letter
unfoldable pub word_in : WordList → List ℕ → Option Word
word_in list t = first_in 0 (small_words list) t

-- the folded beginning alone has the word that the whole input has: of every list, at every place of every input
pub record FoldOnce : Type 0 where
  pub same : (list : WordList) (s : List ℕ) (at : ℕ) → word_in list (beginning_for list s at) ≡ word_at list s at

-- bytes with 0s after them, nine in all
abbrev pub in_nine : List ℕ → List ℕ
in_nine t = t ++ replicate (9 - length t) 0

-- bytes up to the first space
abbrev pub until_space : List ℕ → List ℕ
until_space [] = []
until_space (c ∷ cs) = when eqb c (code " ") then [] else c ∷ until_space cs

-- the word in row k of a table whose rows have nine bytes
unfoldable pub row_of : List ℕ → ℕ → List ℕ
row_of table k = until_space (take 9 (drop (9 * k) table))

-- three bytes and six 0s
pub padded : in_nine (utf8 "may") ≡ 109 ∷ 97 ∷ 121 ∷ 0 ∷ 0 ∷ 0 ∷ 0 ∷ 0 ∷ 0 ∷ []
padded = refl

-- the second word of a table
pub second : row_of (utf8 "january  february march    ") 1 ≡ utf8 "february"
unfolding row_of
second = refl

-- nine bytes for a full name of a month, three for a short one, and none past the end
pub begun
    : (beginning_for MonthsFull (utf8 "1 DECEMBER 99") 2 ≡ utf8 "december ") × (beginning_for MonthsAbbrev (utf8 "1 DECEMBER 99") 2 ≡ utf8 "dec") × (beginning_for MonthsFull (utf8 "May") 3 ≡ [])
begun = (refl, refl, refl)

-- a word and what follows it; a beginning that ends inside a word; a byte 0 in a word; no byte at all
pub worked
    : (word_in MonthsFull (utf8 "may 2024") ≡ listed 4 3) × (word_in MonthsFull (utf8 "septembe") ≡ None) × (word_in MonthsAbbrev (109 ∷ 97 ∷ 0 ∷ []) ≡ None) × (word_in AmPm [] ≡ None)
unfolding word_in
worked = (refl, refl, refl, refl)
