-- PostgreSQL's date patterns (DCH_keywords of formatting.c), in table order.
-- A name comes before its own beginning, so that the longest is found.
use Rattle.std.specs.Prelude.{◌≡◌, refl, Bool, true, false, List, [], ◌∷◌, map, ℕ, length, get_or}
use Prim.Native.String.{String}
use Rattle.base_notation.specs.Text.{utf8}

-- the date modes: no date, a Gregorian date, a date by ISO weeks
abbrev pub none : ℕ
none = 0

abbrev pub gregorian : ℕ
gregorian = 1

abbrev pub iso_week : ℕ
iso_week = 2

-- a pattern: its name, whether it is read as digits (formatting.c's is_digit), and its date mode
pub record Pattern : Type 0 where
  pub name : List ℕ
  pub is_digit : Bool
  pub mode : ℕ

abbrev letters : Bool
letters = false

abbrev digits : Bool
digits = true

abbrev row : String → Bool → ℕ → Pattern
row name is_digit mode = record { name = utf8 name; is_digit = is_digit; mode = mode }

abbrev pub patterns : List Pattern
patterns =
    row "A.D." letters none
    ∷ row "A.M." letters none
    ∷ row "AD" letters none
    ∷ row "AM" letters none
    ∷ row "B.C." letters none
    ∷ row "BC" letters none
    ∷ row "CC" digits none
    ∷ row "DAY" letters none
    ∷ row "DDD" digits gregorian
    ∷ row "DD" digits gregorian
    ∷ row "DY" letters none
    ∷ row "Day" letters none
    ∷ row "Dy" letters none
    ∷ row "D" digits gregorian
    ∷ row "FF1" digits none
    ∷ row "FF2" digits none
    ∷ row "FF3" digits none
    ∷ row "FF4" digits none
    ∷ row "FF5" digits none
    ∷ row "FF6" digits none
    ∷ row "FX" letters none
    ∷ row "HH24" digits none
    ∷ row "HH12" digits none
    ∷ row "HH" digits none
    ∷ row "IDDD" digits iso_week
    ∷ row "ID" digits iso_week
    ∷ row "IW" digits iso_week
    ∷ row "IYYY" digits iso_week
    ∷ row "IYY" digits iso_week
    ∷ row "IY" digits iso_week
    ∷ row "I" digits iso_week
    ∷ row "J" digits none
    ∷ row "MI" digits none
    ∷ row "MM" digits gregorian
    ∷ row "MONTH" letters gregorian
    ∷ row "MON" letters gregorian
    ∷ row "MS" digits none
    ∷ row "Month" letters gregorian
    ∷ row "Mon" letters gregorian
    ∷ row "OF" letters none
    ∷ row "P.M." letters none
    ∷ row "PM" letters none
    ∷ row "Q" digits none
    ∷ row "RM" letters gregorian
    ∷ row "SSSSS" digits none
    ∷ row "SSSS" digits none
    ∷ row "SS" digits none
    ∷ row "TZH" letters none
    ∷ row "TZM" digits none
    ∷ row "TZ" letters none
    ∷ row "US" digits none
    ∷ row "WW" digits gregorian
    ∷ row "W" digits gregorian
    ∷ row "Y,YYY" digits gregorian
    ∷ row "YYYY" digits gregorian
    ∷ row "YYY" digits gregorian
    ∷ row "YY" digits gregorian
    ∷ row "Y" digits gregorian
    ∷ row "a.d." letters none
    ∷ row "a.m." letters none
    ∷ row "ad" letters none
    ∷ row "am" letters none
    ∷ row "b.c." letters none
    ∷ row "bc" letters none
    ∷ row "cc" digits none
    ∷ row "day" letters none
    ∷ row "ddd" digits gregorian
    ∷ row "dd" digits gregorian
    ∷ row "dy" letters none
    ∷ row "d" digits gregorian
    ∷ row "ff1" digits none
    ∷ row "ff2" digits none
    ∷ row "ff3" digits none
    ∷ row "ff4" digits none
    ∷ row "ff5" digits none
    ∷ row "ff6" digits none
    ∷ row "fx" letters none
    ∷ row "hh24" digits none
    ∷ row "hh12" digits none
    ∷ row "hh" digits none
    ∷ row "iddd" digits iso_week
    ∷ row "id" digits iso_week
    ∷ row "iw" digits iso_week
    ∷ row "iyyy" digits iso_week
    ∷ row "iyy" digits iso_week
    ∷ row "iy" digits iso_week
    ∷ row "i" digits iso_week
    ∷ row "j" digits none
    ∷ row "mi" digits none
    ∷ row "mm" digits gregorian
    ∷ row "month" letters gregorian
    ∷ row "mon" letters gregorian
    ∷ row "ms" digits none
    ∷ row "of" letters none
    ∷ row "p.m." letters none
    ∷ row "pm" letters none
    ∷ row "q" digits none
    ∷ row "rm" letters gregorian
    ∷ row "sssss" digits none
    ∷ row "ssss" digits none
    ∷ row "ss" digits none
    ∷ row "tzh" letters none
    ∷ row "tzm" digits none
    ∷ row "tz" letters none
    ∷ row "us" digits none
    ∷ row "ww" digits gregorian
    ∷ row "w" digits gregorian
    ∷ row "y,yyy" digits gregorian
    ∷ row "yyyy" digits gregorian
    ∷ row "yyy" digits gregorian
    ∷ row "yy" digits gregorian
    ∷ row "y" digits gregorian
    ∷ []

-- the pattern of number k; past the table's end one without a name
abbrev pub pattern_of : ℕ → Pattern
pattern_of k = get_or patterns k (record { name = []; is_digit = letters; mode = none })

abbrev pub name_of : ℕ → List ℕ
name_of k = (pattern_of k).name

abbrev pub names : List (List ℕ)
names = map (λ (p : Pattern). p.name) patterns

-- the table has 112 patterns; the first is A.D., and HH24 comes before HH
pub worked : (length patterns ≡ 112) × (name_of 0 ≡ utf8 "A.D.") × (name_of 21 ≡ utf8 "HH24") × (name_of 23 ≡ utf8 "HH")
worked = (refl, refl, refl, refl)

-- SSSSS and SSSS are two patterns; DDD is read as digits in a Gregorian date, and ID in one by ISO weeks
pub modes : (name_of 44 ≡ utf8 "SSSSS") × (name_of 45 ≡ utf8 "SSSS") × (pattern_of 8 ≡ row "DDD" digits gregorian) × (pattern_of 25 ≡ row "ID" digits iso_week)
modes = (refl, refl, refl, refl)
