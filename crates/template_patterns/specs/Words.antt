-- The word lists of formatting.c, in its order.
use Rattle.std.specs.Prelude.{◌≡◌, refl, List, [], ◌∷◌, map, ℕ, max, length}
use Rattle.base_chars.specs.Fold.{folded}
use Rattle.base_notation.specs.Text.{utf8}
use Rattle.template_patterns.specs.Rows.{filled, in_rows}
use Rattle.template_patterns.specs.declared.tables.WordList.{WordList}
use Rattle.template_patterns.specs.declared.tables.WordList.TheVariants.{MonthsFull, MonthsAbbrev, DaysFull, DaysAbbrev, AmPm, AmPmLong, AdBc, AdBcLong, RomanMonths}

-- the words of a list. PM and BC have odd indices. A Roman month comes before its own beginning, so December is first
abbrev pub words_of : WordList → List (List ℕ)
words_of MonthsFull = map utf8 ("January" ∷ "February" ∷ "March" ∷ "April" ∷ "May" ∷ "June" ∷ "July" ∷ "August" ∷ "September" ∷ "October" ∷ "November" ∷ "December" ∷ [])
words_of MonthsAbbrev = map utf8 ("Jan" ∷ "Feb" ∷ "Mar" ∷ "Apr" ∷ "May" ∷ "Jun" ∷ "Jul" ∷ "Aug" ∷ "Sep" ∷ "Oct" ∷ "Nov" ∷ "Dec" ∷ [])
words_of DaysFull = map utf8 ("Sunday" ∷ "Monday" ∷ "Tuesday" ∷ "Wednesday" ∷ "Thursday" ∷ "Friday" ∷ "Saturday" ∷ [])
words_of DaysAbbrev = map utf8 ("Sun" ∷ "Mon" ∷ "Tue" ∷ "Wed" ∷ "Thu" ∷ "Fri" ∷ "Sat" ∷ [])
words_of AmPm = map utf8 ("am" ∷ "pm" ∷ "AM" ∷ "PM" ∷ [])
words_of AmPmLong = map utf8 ("a.m." ∷ "p.m." ∷ "A.M." ∷ "P.M." ∷ [])
words_of AdBc = map utf8 ("ad" ∷ "bc" ∷ "AD" ∷ "BC" ∷ [])
words_of AdBcLong = map utf8 ("a.d." ∷ "b.c." ∷ "A.D." ∷ "B.C." ∷ [])
words_of RomanMonths = map utf8 ("xii" ∷ "xi" ∷ "x" ∷ "ix" ∷ "viii" ∷ "vii" ∷ "vi" ∷ "v" ∷ "iv" ∷ "iii" ∷ "ii" ∷ "i" ∷ [])

-- the words of a list in small letters
abbrev pub small_words : WordList → List (List ℕ)
small_words list = map (map folded) (words_of list)

-- the length of the longest of the words
abbrev pub longest : List (List ℕ) → ℕ
longest [] = 0
longest (w ∷ ws) = max (length w) (longest ws)

-- the words of a list in small letters, in rows of 9 bytes, 12 rows
unfoldable pub word_table : WordList → List ℕ
word_table list = filled 108 (in_rows 9 (small_words list))

-- AM is the same word as am, and September is the longest name of a month
pub worked : (small_words AmPm ≡ map utf8 ("am" ∷ "pm" ∷ "am" ∷ "pm" ∷ [])) × (longest (words_of MonthsFull) ≡ length (utf8 "September"))
worked = (refl, refl)
