-- The texts of pieces, and their lengths. Assumes nothing.
-- `few_bytes`: a piece has at most six bytes at every moment, unless it is the full name of a month.
-- `number_text`: the text of a number is as many of its digits as the piece is wide.
-- `number_put`, `marker_put`, `dotted_put`, `name_put`, `short_put`: what the code puts for a piece, by its number, the
-- half of the day or the month, is the piece's text.
-- `found`: the number of what is found is that of its piece. `no_piece`: where nothing is found there is no text.
-- `piece_small`: a piece of the code is one of the numbers 1 to 17. `piece_named`: only the full name of a month has
-- its number. `piece_counted`: the pieces of numbers are those below 14. `micros_last`: the number of a piece that is
-- none of the first twelve is the microsecond.
-- `piece_size`: the text of a piece is as long as the piece is wide, unless it is the full name of a month.
use Rattle.std.specs.Prelude.{None, Option, Some}
use mathlib.Core.Path.{◌≡◌, ◌∙◌, refl, sym, ap}
use mathlib.Core.Bool.{Bool, true, false}
use mathlib.Core.List.{[]}
use Prim.Native.Nat.{ℕ, ◌<◌, ◌≤◌}
use native.Mathlib.Omega.{arith}
use borrow.Author.Tests.{ltb-true, ltb-false, ne_eqb}
use lib.Dec.{ltb}
use lib.IntN.{nat_abs}
use lib.ListN.{length}
use Rattle.base_strtol.specs.Decimal.{decimal}
use Rattle.base_strtol.proofs.Decimals.{decimal-length}
use Rattle.calendar_gregorian.proofs.Dates.{each}
use Rattle.template_patterns.specs.declared.Case.{Case}
use Rattle.write_pieces.specs.Moment.{is_moment}
use Rattle.write_pieces.specs.Pieces.{marker, dotted_marker, month_name, short_month, found_number, is_morning, number_of, piece_number, piece_text, width_of}
use Rattle.write_pieces.specs.Words.{marker_text, month_text}
use Rattle.write_pieces.specs.declared.Moment.{Moment}
use Rattle.write_pieces.specs.declared.Piece.{Piece}
use Rattle.write_pieces.specs.declared.Piece.TheVariants.{Year, Month, Day, YearDay, WeekYear, Week, Weekday, Hour24, Hour12, Minute, Second, DaySecond, Micros, Marker, DottedMarker, MonthName, ShortMonth}
use Rattle.write_pieces.proofs.Markers.{marker_size}
use Rattle.write_pieces.proofs.Moments.{numbers}
use Rattle.write_pieces.proofs.Months.{short_size}

pub few_bytes : (p : ℕ) → p < 18 → width_of p ≤ 6
few_bytes p h = each (λ p. width_of p ≤ 6) 0 17 (omega arith) p (omega arith) (omega arith)

module _ (case : Case) (m : Moment) where
  pub number_text : (p : ℕ) → p < 14 → piece_text p case m ≡ decimal (width_of p) (number_of p m)
  unfolding piece_text
  number_text p h =
      rw (
        ne_eqb p marker (omega arith),
        ne_eqb p dotted_marker (omega arith),
        ne_eqb p month_name (omega arith),
        ne_eqb p short_month (omega arith),
      )

  module _ (p : ℕ) where
    pub number_put : p < 14 → (size n : ℕ) → size ≡ width_of p → n ≡ number_of p m → decimal size n ≡ piece_text p case m
    number_put h size n e f = rw (e, f) (sym (number_text p h))

    module _ (early : Bool) (e : early ≡ is_morning m) where
      pub marker_put : p ≡ marker → marker_text case false early ≡ piece_text p case m
      unfolding piece_text
      marker_put q = rw (q, e)

      pub dotted_put : p ≡ dotted_marker → marker_text case true early ≡ piece_text p case m
      unfolding piece_text
      dotted_put q = rw (q, e)

    module _ (month : ℕ) (e : month ≡ nat_abs m.month) where
      pub name_put : p ≡ month_name → month_text case true month ≡ piece_text p case m
      unfolding piece_text
      name_put q = rw (q, e)

      pub short_put : p ≡ short_month → month_text case false month ≡ piece_text p case m
      unfolding piece_text
      short_put q = rw (q, e)

  -- the text of a word that is no full name of a month
  word_size : is_moment m ≡ true → (p : ℕ) → 14 ≤ p → p ≤ 17 → (p ≡ month_name → ⊥) → width_of p ≡ length (piece_text p case m)
  unfolding piece_text
  word_size is =
      let date = (numbers m is).date in
      each (λ p. (p ≡ month_name → ⊥) → width_of p ≡ length (piece_text p case m)) 14 3 (
        λ _. sym (marker_size case false (is_morning m)),
        (
          λ _. sym (marker_size case true (is_morning m)),
          (λ n. absurd (n refl), λ _. short_size case (nat_abs m.month) date.month_from date.month_to false refl),
        ),
      )

  pub piece_size : (p : ℕ) → is_moment m ≡ true → p < 18 → (p ≡ month_name → ⊥) → width_of p ≡ length (piece_text p case m)
  piece_size p is h other = split (ltb p 14) refl
    where
      split : (b : Bool) → ltb p 14 ≡ b → width_of p ≡ length (piece_text p case m)
      split true e = sym (ap length (number_text p (ltb-true p 14 e)) ∙ decimal-length (width_of p) (number_of p m))
      split false e = word_size is p (ltb-false p 14 e) (omega arith) other

-- what is found, by its piece
pub found : {o : Option Piece} {p q : Piece} → o ≡ Some p → p ≡ q → found_number o ≡ piece_number q
found e f = rw (e, f)

pub no_piece : {o : Option Piece} (case : Case) (m : Moment) → o ≡ None → piece_text (found_number o) case m ≡ []
unfolding piece_text decimal
no_piece case m e = rw e

pub piece_small : (p : Piece) → piece_number p < 18
piece_small Year = omega arith
piece_small Month = omega arith
piece_small Day = omega arith
piece_small YearDay = omega arith
piece_small WeekYear = omega arith
piece_small Week = omega arith
piece_small Weekday = omega arith
piece_small Hour24 = omega arith
piece_small Hour12 = omega arith
piece_small Minute = omega arith
piece_small Second = omega arith
piece_small DaySecond = omega arith
piece_small Micros = omega arith
piece_small Marker = omega arith
piece_small DottedMarker = omega arith
piece_small MonthName = omega arith
piece_small ShortMonth = omega arith

pub piece_named : (p : Piece) → (p ≡ MonthName → ⊥) → piece_number p ≡ month_name → ⊥
piece_named Year n = λ e. omega (arith, e)
piece_named Month n = λ e. omega (arith, e)
piece_named Day n = λ e. omega (arith, e)
piece_named YearDay n = λ e. omega (arith, e)
piece_named WeekYear n = λ e. omega (arith, e)
piece_named Week n = λ e. omega (arith, e)
piece_named Weekday n = λ e. omega (arith, e)
piece_named Hour24 n = λ e. omega (arith, e)
piece_named Hour12 n = λ e. omega (arith, e)
piece_named Minute n = λ e. omega (arith, e)
piece_named Second n = λ e. omega (arith, e)
piece_named DaySecond n = λ e. omega (arith, e)
piece_named Micros n = λ e. omega (arith, e)
piece_named Marker n = λ e. omega (arith, e)
piece_named DottedMarker n = λ e. omega (arith, e)
piece_named MonthName n = λ e. n refl
piece_named ShortMonth n = λ e. omega (arith, e)

pub piece_counted : (p : Piece) → (p ≡ Marker → ⊥) → (p ≡ DottedMarker → ⊥) → (p ≡ MonthName → ⊥) → (p ≡ ShortMonth → ⊥) → piece_number p < 14
piece_counted Year a b c d = omega arith
piece_counted Month a b c d = omega arith
piece_counted Day a b c d = omega arith
piece_counted YearDay a b c d = omega arith
piece_counted WeekYear a b c d = omega arith
piece_counted Week a b c d = omega arith
piece_counted Weekday a b c d = omega arith
piece_counted Hour24 a b c d = omega arith
piece_counted Hour12 a b c d = omega arith
piece_counted Minute a b c d = omega arith
piece_counted Second a b c d = omega arith
piece_counted DaySecond a b c d = omega arith
piece_counted Micros a b c d = omega arith
piece_counted Marker a b c d = absurd (a refl)
piece_counted DottedMarker a b c d = absurd (b refl)
piece_counted MonthName a b c d = absurd (c refl)
piece_counted ShortMonth a b c d = absurd (d refl)

pub micros_last : (p : Piece) (m : Moment) → (p ≡ Year → ⊥) → (p ≡ Month → ⊥) → (p ≡ Day → ⊥) → (p ≡ YearDay → ⊥) → (p ≡ WeekYear → ⊥) → (p ≡ Week → ⊥) → (p ≡ Weekday → ⊥) → (p ≡ Hour24 → ⊥) → (p ≡ Hour12 → ⊥) → (p ≡ Minute → ⊥) → (p ≡ Second → ⊥) → (p ≡ DaySecond → ⊥)
    → number_of (piece_number p) m ≡ nat_abs m.micros
unfolding number_of
micros_last Year m n1 n2 n3 n4 n5 n6 n7 n8 n9 n10 n11 n12 = absurd (n1 refl)
micros_last Month m n1 n2 n3 n4 n5 n6 n7 n8 n9 n10 n11 n12 = absurd (n2 refl)
micros_last Day m n1 n2 n3 n4 n5 n6 n7 n8 n9 n10 n11 n12 = absurd (n3 refl)
micros_last YearDay m n1 n2 n3 n4 n5 n6 n7 n8 n9 n10 n11 n12 = absurd (n4 refl)
micros_last WeekYear m n1 n2 n3 n4 n5 n6 n7 n8 n9 n10 n11 n12 = absurd (n5 refl)
micros_last Week m n1 n2 n3 n4 n5 n6 n7 n8 n9 n10 n11 n12 = absurd (n6 refl)
micros_last Weekday m n1 n2 n3 n4 n5 n6 n7 n8 n9 n10 n11 n12 = absurd (n7 refl)
micros_last Hour24 m n1 n2 n3 n4 n5 n6 n7 n8 n9 n10 n11 n12 = absurd (n8 refl)
micros_last Hour12 m n1 n2 n3 n4 n5 n6 n7 n8 n9 n10 n11 n12 = absurd (n9 refl)
micros_last Minute m n1 n2 n3 n4 n5 n6 n7 n8 n9 n10 n11 n12 = absurd (n10 refl)
micros_last Second m n1 n2 n3 n4 n5 n6 n7 n8 n9 n10 n11 n12 = absurd (n11 refl)
micros_last DaySecond m n1 n2 n3 n4 n5 n6 n7 n8 n9 n10 n11 n12 = absurd (n12 refl)
micros_last Micros m n1 n2 n3 n4 n5 n6 n7 n8 n9 n10 n11 n12 = refl
micros_last Marker m n1 n2 n3 n4 n5 n6 n7 n8 n9 n10 n11 n12 = refl
micros_last DottedMarker m n1 n2 n3 n4 n5 n6 n7 n8 n9 n10 n11 n12 = refl
micros_last MonthName m n1 n2 n3 n4 n5 n6 n7 n8 n9 n10 n11 n12 = refl
micros_last ShortMonth m n1 n2 n3 n4 n5 n6 n7 n8 n9 n10 n11 n12 = refl
