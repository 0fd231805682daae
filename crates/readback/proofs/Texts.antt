-- The text of a piece, and what is read as if it were that text. Assumes nothing.
-- `word_for`: the word of a piece at a moment, in small letters.
-- `SpellsPiece`: x spells a piece at a moment: a number is itself, and a word has the same folded bytes.
-- `piece_spelled`: the text of a piece spells it, whatever its case.
-- `all_fit`: the word of a piece is `Fit`, so that it is found whatever follows it.
-- `spelled_written`, `spelled_size`, `spelled_stops`: what spells a piece is `Written` and has no more bytes than its
-- text may have; what spells a word begins with no digit.
-- `width_some`: a number has a digit at least.
use mathlib.Core.Path.{◌≡◌, ◌∙◌, refl, sym}
use mathlib.Core.Bool.{Bool, true, false}
use mathlib.Core.List.{List, [], ◌∷◌, ◌++◌, map}
use Prim.Native.Nat.{ℕ, ◌-◌, ◌≤◌, ◌<◌}
use native.Mathlib.Omega.{arith}
use borrow.Author.Tests.{ltb-true, ltb-false, lt-ltb, le-ltb}
use lib.Dec.{ltb}
use lib.IntN.{nat_abs}
use lib.ListN.{length, get_or, replicate, get_or-map}
use Rattle.base_notation.specs.Choice.{when◌then◌else◌}
use Rattle.base_notation.specs.Text.{byte_at, utf8}
use Rattle.base_notation.proofs.Table.{entry}
use Rattle.base_chars.specs.Class.{digit, class_of}
use Rattle.base_chars.specs.Fold.{folded}
use Rattle.base_chars.specs.Utf8.{well_formed}
use Rattle.base_chars.proofs.Classes.{the_class, digit_bounds}
use Rattle.base_chars.proofs.WellFormed.{empty_text}
use Rattle.calendar_gregorian.proofs.Dates.{each}
use Rattle.base_strtol.specs.Decimal.{decimal}
use Rattle.base_strtol.specs.Runs.{digits}
use Rattle.base_strtol.proofs.Decimals.{AllDigits, decimal-length, decimal_digits}
use Rattle.template_patterns.specs.declared.Case.{Case}
use Rattle.template_patterns.specs.Words.{words_of}
use Rattle.template_patterns.specs.declared.tables.WordList.{WordList}
use Rattle.template_patterns.specs.declared.tables.WordList.TheVariants.{AmPm, AmPmLong, MonthsFull, MonthsAbbrev}
use Rattle.write_pieces.specs.Moment.{moment}
use Rattle.write_pieces.specs.Pieces.{width_of, number_of, is_morning, piece_text}
use Rattle.write_pieces.specs.Words.{in_case, marker_text}
use Rattle.write_pieces.specs.declared.Moment.{Moment}
use Rattle.write_pieces.proofs.Cased.{folded_cased}
use Rattle.write_pieces.proofs.Lengths.{number_text}
use Rattle.readback.proofs.Ahead.{inked}
use Rattle.readback.proofs.Known.{list_for, index_for, most_for}
use Rattle.readback.proofs.MomentFacts.{IsMoment}
use Rattle.readback.proofs.Words.{Written, ascii_first, Fit, fit, is_fit, word_of, word_written, word_stops, word_size}

-- the word of a piece at a moment, in small letters
abbrev pub word_for : ℕ → Moment → List ℕ
word_for p m = word_of (list_for p) (index_for p m)

pub data SpellsPiece (p : ℕ) (m : Moment) (x : List ℕ) : Type 0 where
  a_number : p ≤ 13 → x ≡ decimal (width_of p) (number_of p m) → SpellsPiece p m x
  a_word : 14 ≤ p → p ≤ 17 → map folded x ≡ word_for p m → SpellsPiece p m x

-- digits are ASCII
digits_text : (u : List ℕ) → AllDigits u → well_formed u ≡ true
digits_text [] h = empty_text
digits_text (b ∷ u) h = ascii_first b u (omega (arith, digit_bounds b h.0)) (digits_text u h.1)

-- and neither spaces nor separators
digits_inked : (u : List ℕ) → 0 < length u → AllDigits u → inked u ≡ true
digits_inked [] z h = absurd (omega arith)
digits_inked (b ∷ u) z h = rw (the_class (class_of b) digit h.0)

digits_ascii : (u v : List ℕ) → 0 < length u → AllDigits u → byte_at (u ++ v) 0 ≤ 127
digits_ascii [] v z h = absurd (omega arith)
digits_ascii (b ∷ u) v z h = omega (arith, digit_bounds b h.0)

pub width_some : (p : ℕ) → 1 ≤ p → p ≤ 13 → 0 < width_of p
width_some = each (λ p. 0 < width_of p) 1 12 (omega arith)

number_written : (w n : ℕ) → 0 < w → Written (decimal w n)
number_written w n some =
    record {
      text = digits_text (decimal w n) (decimal_digits w n);
      ink = digits_inked (decimal w n) (omega (arith, decimal-length w n)) (decimal_digits w n);
      ascii = λ v. digits_ascii (decimal w n) v (omega (arith, decimal-length w n)) (decimal_digits w n);
    }

-- a marker and a name of a month, once they are folded
marker_folds : (case : Case) (dotted morning : Bool)
    → map folded (marker_text case dotted morning) ≡ word_of (when dotted then AmPmLong else AmPm) (when morning then 0 else 1)
marker_folds case true true = folded_cased case (utf8 "A.M.")
marker_folds case true false = folded_cased case (utf8 "P.M.")
marker_folds case false true = folded_cased case (utf8 "AM")
marker_folds case false false = folded_cased case (utf8 "PM")

month_folds : (case : Case) (list : WordList) (k : ℕ) → map folded (in_case case (get_or (words_of list) k [])) ≡ word_of list k
month_folds case list k = folded_cased case (get_or (words_of list) k []) ∙ sym (get_or-map (map folded) (words_of list) k [])

module _ (m : Moment) where
  word_folds : (case : Case) (p : ℕ) → 14 ≤ p → p ≤ 17 → map folded (piece_text p case m) ≡ word_for p m
  unfolding piece_text
  word_folds case =
      let k = nat_abs m.month - 1 in
      each (λ p. map folded (piece_text p case m) ≡ word_for p m) 14 3 (
        marker_folds case false (is_morning m),
        (marker_folds case true (is_morning m), (month_folds case MonthsFull k, month_folds case MonthsAbbrev k)),
      )

  pub piece_spelled : (case : Case) (p : ℕ) → p ≤ 17 → SpellsPiece p m (piece_text p case m)
  piece_spelled case p to =
      (elim (ltb p 14) as (λ b. ltb p 14 ≡ b → SpellsPiece p m (piece_text p case m)) [
        | true ↦ λ b. a_number (omega (arith, ltb-true p 14 b)) (number_text case m p (ltb-true p 14 b))
        | false ↦ λ b. a_word (ltb-false p 14 b) to (word_folds case p (ltb-false p 14 b) to)
      ]) refl

-- the markers of a list differ from each other
marker_fit : (dotted morning : Bool) → Fit (when dotted then AmPmLong else AmPm) (when morning then 0 else 1)
unfolding class_of
marker_fit true true = is_fit _ _ refl
marker_fit true false = is_fit _ _ refl
marker_fit false true = is_fit _ _ refl
marker_fit false false = is_fit _ _ refl

-- no name of a month begins another, among the full names and among the short ones
month_fit : (k : ℕ) → k < 12 → Fit MonthsFull k × Fit MonthsAbbrev k
unfolding class_of
month_fit k h = (
  is_fit MonthsFull k (entry (λ (j x : ℕ). fit MonthsFull j) 0 (replicate 12 0) refl k h),
  is_fit MonthsAbbrev k (entry (λ (j x : ℕ). fit MonthsAbbrev j) 0 (replicate 12 0) refl k h),
)

module _ {y mo d h mi s us : ℕ} (is : IsMoment y mo d h mi s us) where
  abbrev now : Moment
  now = moment y mo d h mi s us

  pub all_fit : (p : ℕ) → 14 ≤ p → p ≤ 17 → Fit (list_for p) (index_for p now)
  all_fit =
      let months = month_fit (mo - 1) (omega (arith, is.date.month_from, is.date.month_to)) in
      each (λ p. Fit (list_for p) (index_for p now)) 14 3
      (marker_fit false (is_morning now), (marker_fit true (is_morning now), (months.0, months.1)))

  module _ {p : ℕ} {x : List ℕ} where
    pub spelled_written : 1 ≤ p → SpellsPiece p now x → Written x
    spelled_written from (a_number to e) = rw e (number_written (width_of p) (number_of p now) (width_some p from to))
    spelled_written from (a_word low to e) = word_written (all_fit p low to) x e

    pub spelled_stops : 14 ≤ p → SpellsPiece p now x → (v : List ℕ) → digits (x ++ v) ≡ 0
    spelled_stops low (a_number to e) v = absurd (omega arith)
    spelled_stops low (a_word from to e) v = word_stops (all_fit p low to) x e v

    pub spelled_size : SpellsPiece p now x → length x ≤ most_for p
    spelled_size (a_number to e) = rw (lt-ltb p 14 (omega arith), e) (omega (arith, decimal-length (width_of p) (number_of p now)))
    spelled_size (a_word low to e) = rw (le-ltb p 14 low) (word_size (all_fit p low to) x e)
