-- The words that are written: markers of the half of the day, and names of months, in the case of their pattern.
use Rattle.std.specs.Prelude.{◌≡◌, refl, Bool, true, false, List, [], ◌∷◌, map, ℕ, ◌-◌, get_or}
use Rattle.base_notation.specs.Choice.{when◌then◌else◌}
use Rattle.base_notation.specs.Text.{utf8}
use Rattle.base_chars.specs.Fold.{folded, raised}
use Rattle.template_patterns.specs.Words.{words_of}
use Rattle.template_patterns.specs.declared.Case.{Case}
use Rattle.template_patterns.specs.declared.Case.TheVariants.{Capitals, Small, Title}
use Rattle.template_patterns.specs.declared.tables.WordList.TheVariants.{MonthsFull, MonthsAbbrev}

-- a letter of a word in a case: in title case the first is a capital
abbrev pub letter_in : Case → Bool → ℕ → ℕ
letter_in Capitals first b = raised b
letter_in Small first b = folded b
letter_in Title first b = when first then raised b else folded b

-- a word in a case
abbrev pub in_case : Case → List ℕ → List ℕ
in_case case [] = []
in_case case (b ∷ w) = letter_in case true b ∷ map (letter_in case false) w

-- a marker in a case, dotted where the pattern is
abbrev pub marker_text : Case → Bool → Bool → List ℕ
marker_text case dotted morning =
    in_case case
    (when dotted then (when morning then utf8 "A.M." else utf8 "P.M.") else (when morning then utf8 "AM" else utf8 "PM"))

-- the names of months, full or of three letters
abbrev pub month_names : Bool → List (List ℕ)
month_names full = words_of (when full then MonthsFull else MonthsAbbrev)

-- the name of a month from 1 to 12 in a case
abbrev pub month_text : Case → Bool → ℕ → List ℕ
month_text case full month = in_case case (get_or (month_names full) (month - 1) [])

-- markers have capitals or small letters; no marker's pattern is in title case, in which it would be Am
pub markers
    : (marker_text Small false false ≡ utf8 "pm") × (marker_text Capitals true true ≡ utf8 "A.M.") × (marker_text Title false true ≡ utf8 "Am")
markers = (refl, refl, refl)

-- a name in each case, and of each length
pub months
    : (month_text Title true 9 ≡ utf8 "September") × (month_text Small true 5 ≡ utf8 "may") × (month_text Capitals true 12 ≡ utf8 "DECEMBER")
    × (month_text Title false 9 ≡ utf8 "Sep") × (month_text Small false 6 ≡ utf8 "jun") × (month_text Capitals false 7 ≡ utf8 "JUL")
months = (refl, refl, refl, refl, refl, refl)
