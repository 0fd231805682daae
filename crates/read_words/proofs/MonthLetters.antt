-- The month at a place, by its letters as a number. Assumes nothing.
-- `same_letter`: a byte with the bit 32 set is a small letter exactly if the folded byte is.
-- `first_letters`: the lowest bits of eight letters are those of a word exactly if the word begins there.
-- `other_month`: a slot that none of the tests names has May.
-- `left_fits`: of 64 bits some are compared.
-- `other_letters`, `other_ninth`: where the letters that are compared differ, or the ninth does, no month is there.
-- `same_letters`: where they are the same, the month is there.
use Rattle.std.specs.Prelude.{None, Option}
use mathlib.Core.Path.{◌≡◌, ◌∙◌, refl, sym, ap}
use mathlib.Core.Bool.{Bool, true, false, not, ◌&&◌, ◌||◌, and_assoc, false≢true}
use mathlib.Core.List.{List, [], ◌∷◌, map}
use Prim.Native.Nat.{ℕ, zero, suc, ◌+◌, ◌-◌, ◌*◌, ◌/◌, ◌%◌, ◌^◌, ◌<◌, ◌≤◌, min}
use Prim.Native.Char.{code}
use native.Mathlib.Nat.{add-zero, zero-add, mod-lt, mod-one, not-suc-le-zero}
use native.Mathlib.Omega.{arith}
use borrow.Author.Tests.{eq-eqb, ne_eqb, eqb-true, leb-true, ltb-true, not-true}
use lib.Bits.{bit_or, or_block, or_lt}
use lib.Dec.{eqb, leb, ltb, lit<}
use lib.ListN.{length, get_or, take, drop, replicate}
use lib.Pow.{mod-pow-add}
use Rattle.base_chars.specs.Fold.{folded}
use Rattle.base_chars.specs.Range.{◌‥◌, ◌∈◌}
use Rattle.base_chars.proofs.Ranges.{bounds}
use Rattle.base_notation.specs.Choice.{when◌then◌else◌}
use Rattle.base_notation.specs.Text.{byte_at}
use Rattle.base_notation.proofs.Cases.{both, by_if, neither}
use Rattle.base_notation.proofs.Table.{all_from, entry}
use Rattle.template_patterns.specs.Numbers.{packed}
use Rattle.template_patterns.specs.Words.{words_of}
use Rattle.template_patterns.proofs.Keys.{NoneOf, same_parts}
use Rattle.read_words.specs.Months.{letters_at, month_in, month_list, number_in, row_in, slot_of}
use Rattle.read_words.specs.Spelling.{listed, spelled_at, first_word, word_at}
use Rattle.read_words.specs.declared.spelling.Word.{Word}
use Rattle.read_words.proofs.Words.{same, same_is}

-- ---- letters
abbrev is_small : ℕ → Bool
is_small c = c ∈ code "a" ‥ code "z"

-- a byte with the bit 32 set is the folded byte, or neither is a small letter
abbrev alike : ℕ → ℕ → Bool
alike b x = eqb (bit_or b 32) (folded b) || not (is_small (bit_or b 32) || is_small (folded b))

all_alike : all_from alike 0 (replicate 256 0) ≡ true
all_alike = refl

not_small : (a c : ℕ) → is_small a ≡ false → is_small c ≡ true → eqb a c ≡ false
not_small a c n e = ne_eqb a c (λ q. absurd (false≢true (sym n ∙ ap is_small q ∙ e)))

same_letter : (b c : ℕ) → b < 256 → is_small c ≡ true → eqb (bit_or b 32) c ≡ eqb (folded b) c
same_letter b c h e = split (eqb (bit_or b 32) (folded b)) refl
  where
    split : (q : Bool) → eqb (bit_or b 32) (folded b) ≡ q → eqb (bit_or b 32) c ≡ eqb (folded b) c
    split true q = ap (λ (a : ℕ). eqb a c) (eqb-true (bit_or b 32) (folded b) q)
    split false q =
        let apart = not-true _ (rw q at (entry alike 0 (replicate 256 0) all_alike b h)) in
        let none = neither (is_small (bit_or b 32)) _ apart in
        not_small (bit_or b 32) c none.0 e ∙ sym (not_small (folded b) c none.1 e)

abbrev Bytes : List ℕ → Type 0
Bytes [] = Unit {0}
Bytes (b ∷ bs) = (b < 256) × Bytes bs

-- the bit is set in each byte
set_in_each
    : (bs : List ℕ) → Bytes bs
    → bit_or (packed bs) (packed (map (λ (b : ℕ). 32) bs)) ≡ packed (map (λ (b : ℕ). bit_or b 32) bs)
set_in_each [] small = refl
set_in_each (b ∷ bs) small =
    let rest = packed bs in
    let mask = packed (map (λ (b : ℕ). 32) bs) in
    let low : b + 256 * rest ≡ rest * 2 ^ 8 + b = omega arith in
    let high : 32 + 256 * mask ≡ mask * 2 ^ 8 + 32 = omega arith in
    rw (low, high, or_block 8 rest mask b 32 small.0 (lit< tt), set_in_each bs small.1) (omega arith)

abbrev all_letters : ℕ → List ℕ → Bool
all_letters i w = all_from (λ (j c : ℕ). is_small (folded c)) i w

module _ (s : List ℕ) (bytes : (i : ℕ) → byte_at s i < 256) where
  -- n letters from a place on
  abbrev letters_from : ℕ → ℕ → ℕ
  letters_from zero at = 0
  letters_from (suc n) at = bit_or (byte_at s at) 32 + 256 * letters_from n (at + 1)

  first_letters : (m n at i : ℕ) (w : List ℕ) → m ≤ n → m ≤ length w → all_letters i w ≡ true
      → spelled_at w s at
      ≡ (eqb (letters_from n at % 2 ^ (8 * m)) (packed (map folded (take m w))) && spelled_at (drop m w) s (at + m))
  first_letters zero n at i w h l e = rw (mod-one, add-zero at)
  first_letters (suc m) zero at i w h l e = absurd (not-suc-le-zero h)
  first_letters (suc m) (suc n) at i [] h l e = absurd (not-suc-le-zero l)
  first_letters (suc m) (suc n) at i (c ∷ w) h l e =
      let tests = both (is_small (folded c)) _ e in
      let b = bit_or (byte_at s at) 32 in
      let rest = letters_from n (at + 1) in
      let small : b < 256 = or_lt 8 (byte_at s at) 32 (bytes at) (lit< tt) in
      let letter = bounds (97 ‥ 122) (folded c) tests.0 in
      let more : 8 * suc m ≡ 8 * m + 8 = omega arith in
      let upper : (b + 256 * rest) / 256 ≡ rest = omega arith in
      let lower : (b + 256 * rest) % 256 ≡ b = omega arith in
      let next : at + 1 + m ≡ at + suc m = omega arith in
      rw (
        more,
        mod-pow-add (b + 256 * rest) (8 * m) 8,
        upper,
        lower,
        same_parts b (folded c) (rest % 2 ^ (8 * m)) (packed (map folded (take m w))) small (omega arith),
        same_letter (byte_at s at) (folded c) (bytes at) tests.0,
        first_letters m n (at + 1) (suc i) w (omega arith) (omega arith) tests.1,
        next,
        and_assoc,
      )

  -- the eight bytes
  abbrev eight_at : ℕ → List ℕ
  eight_at at =
      byte_at s at ∷ byte_at s (at + 1) ∷ byte_at s (at + 2) ∷ byte_at s (at + 3)
      ∷ byte_at s (at + 4) ∷ byte_at s (at + 5) ∷ byte_at s (at + 6) ∷ byte_at s (at + 7) ∷ []

  eight_bytes : (at : ℕ) → Bytes (eight_at at)
  eight_bytes at =
      let last : Bytes (byte_at s (at + 4) ∷ byte_at s (at + 5) ∷ byte_at s (at + 6) ∷ byte_at s (at + 7) ∷ [])
      = (bytes (at + 4), (bytes (at + 5), (bytes (at + 6), (bytes (at + 7), tt)))) in
      (bytes at, (bytes (at + 1), (bytes (at + 2), (bytes (at + 3), last))))

  letters_is : (at : ℕ) → letters_at s at ≡ letters_from 8 at
  unfolding letters_at
  letters_is at =
      let one : at + 1 + 1 ≡ at + 2 = omega arith in
      let two : at + 2 + 1 ≡ at + 3 = omega arith in
      let three : at + 3 + 1 ≡ at + 4 = omega arith in
      let four : at + 4 + 1 ≡ at + 5 = omega arith in
      let five : at + 5 + 1 ≡ at + 6 = omega arith in
      let six : at + 6 + 1 ≡ at + 7 = omega arith in
      rw (one, two, three, four, five, six) (set_in_each (eight_at at) (eight_bytes at))

-- ---- the table
pub other_month : (slot : ℕ) → NoneOf slot (12 ∷ 11 ∷ 10 ∷ 9 ∷ 8 ∷ 7 ∷ 6 ∷ 4 ∷ 2 ∷ 1 ∷ 0 ∷ []) → month_in slot ≡ 4
other_month zero none = absurd (none.0.0.0.0.0.0.0.0.0.0.1 refl)
other_month (suc zero) none = absurd (none.0.0.0.0.0.0.0.0.0.1 refl)
other_month (suc (suc zero)) none = absurd (none.0.0.0.0.0.0.0.0.1 refl)
other_month (suc (suc (suc zero))) none = refl
other_month (suc (suc (suc (suc zero)))) none = absurd (none.0.0.0.0.0.0.0.1 refl)
other_month (suc (suc (suc (suc (suc zero))))) none = refl
other_month (suc (suc (suc (suc (suc (suc zero)))))) none = absurd (none.0.0.0.0.0.0.1 refl)
other_month (suc (suc (suc (suc (suc (suc (suc zero))))))) none = absurd (none.0.0.0.0.0.1 refl)
other_month (suc (suc (suc (suc (suc (suc (suc (suc zero)))))))) none = absurd (none.0.0.0.0.1 refl)
other_month (suc (suc (suc (suc (suc (suc (suc (suc (suc zero))))))))) none = absurd (none.0.0.0.1 refl)
other_month (suc (suc (suc (suc (suc (suc (suc (suc (suc (suc zero)))))))))) none = absurd (none.0.0.1 refl)
other_month (suc (suc (suc (suc (suc (suc (suc (suc (suc (suc (suc zero))))))))))) none = absurd (none.0.1 refl)
other_month (suc (suc (suc (suc (suc (suc (suc (suc (suc (suc (suc (suc zero)))))))))))) none = absurd (none.1 refl)
other_month (suc (suc (suc (suc (suc (suc (suc (suc (suc (suc (suc (suc (suc k))))))))))))) none = refl

-- a choice by the kind of name
module _ (short : Bool) where
  abbrev words : List (List ℕ)
  words = words_of (month_list short)

  -- how many bits are not compared, and how long the name is
  abbrev pub left_in : ℕ → ℕ
  left_in row = when short then 40 else row / 2 ^ 8

  abbrev pub length_in : ℕ → ℕ
  length_in row = when short then 3 else row % 16

  -- the month j has at least three letters, and is in the slot that they give
  abbrev own : ℕ → List ℕ → Bool
  own j w =
      all_letters 0 w && (leb 3 (length w) && eqb (month_in (packed (map folded (take 3 w)) * 101 / 2 ^ 16 % 16)) j)

  -- the name of a slot's month
  abbrev name_by : ℕ → List ℕ
  name_by slot = get_or words (month_in slot) []

  -- how many of its letters are compared at once
  abbrev at_once : ℕ → ℕ
  at_once slot = min (length (name_by slot)) 8

  -- what the tables say of it
  abbrev right : ℕ → ℕ → Bool
  right slot x =
      ltb (month_in slot) 12
      && (eqb (64 - left_in (row_in slot)) (8 * at_once slot)
      && (ltb (left_in (row_in slot)) 64
      && (eqb (length_in (row_in slot)) (length (name_by slot))
      && (eqb (row_in slot / 16 % 16) (month_in slot)
      && (eqb (number_in slot % 2 ^ (8 * at_once slot)) (packed (map folded (take (at_once slot) (name_by slot))))
      && same (drop (at_once slot) (name_by slot)) (when eqb (length (name_by slot)) 9 then code "r" ∷ [] else []))))))

all_own : (short : Bool) → all_from (own short) 0 (words short) ≡ true
all_own true = refl
all_own false = refl

all_right : (short : Bool) → all_from (right short) 0 (replicate 16 0) ≡ true
unfolding number_in row_in
all_right true = refl
all_right false = refl

-- the same, fact by fact
record Slot (short : Bool) (slot : ℕ) : Type 0 where
  month : month_in slot < 12
  bits : 64 - left_in short (row_in slot) ≡ 8 * at_once short slot
  fits : left_in short (row_in slot) < 64
  size : length_in short (row_in slot) ≡ length (name_by short slot)
  index : row_in slot / 16 % 16 ≡ month_in slot
  number
      : number_in slot % 2 ^ (8 * at_once short slot)
      ≡ packed (map folded (take (at_once short slot) (name_by short slot)))
  rest
      : drop (at_once short slot) (name_by short slot)
      ≡ (when eqb (length (name_by short slot)) 9 then code "r" ∷ [] else [])

slot_is : (short : Bool) (slot : ℕ) → slot < 16 → Slot short slot
slot_is short slot h =
    let on_month = both (ltb (month_in slot) 12) _ (entry (right short) 0 (replicate 16 0) (all_right short) slot h) in
    let on_bits = both (eqb (64 - left_in short (row_in slot)) _) _ on_month.1 in
    let on_fits = both (ltb (left_in short (row_in slot)) 64) _ on_bits.1 in
    let on_size = both (eqb (length_in short (row_in slot)) _) _ on_fits.1 in
    let on_index = both (eqb (row_in slot / 16 % 16) _) _ on_size.1 in
    let on_number = both (eqb (number_in slot % 2 ^ (8 * at_once short slot)) _) _ on_index.1 in
    record {
      month = ltb-true _ _ on_month.0;
      bits = eqb-true _ _ on_bits.0;
      fits = ltb-true _ _ on_fits.0;
      size = eqb-true _ _ on_size.0;
      index = eqb-true _ _ on_index.0;
      number = eqb-true _ _ on_number.0;
      rest = same_is _ _ on_number.1;
    }

-- ---- the only word that can be there
module _ (s : List ℕ) (at : ℕ) where
  none_there
      : (ws : List (List ℕ)) (i : ℕ) → ((j : ℕ) → j < length ws → spelled_at (get_or ws j []) s at ≡ true → ⊥)
      → first_word i ws s at ≡ None
  none_there [] i none = refl
  none_there (w ∷ ws) i none =
      by_if (λ (r : Option Word). r ≡ None) (spelled_at w s at) _ _ (λ e. absurd (none 0 (omega arith) e))
      (λ e. none_there ws (suc i) (λ j l. none (suc j) (omega arith)))

  only_there
      : (ws : List (List ℕ)) (i k : ℕ) → k < length ws
      → ((j : ℕ) → j < length ws → spelled_at (get_or ws j []) s at ≡ true → j ≡ k)
      → first_word i ws s at
      ≡ (when spelled_at (get_or ws k []) s at then listed (i + k) (length (get_or ws k [])) else None)
  only_there [] i k h only = absurd (not-suc-le-zero h)
  only_there (w ∷ ws) i zero h only =
      rw (add-zero i, none_there ws (suc i) (λ j l e. absurd (omega (arith, only (suc j) (omega arith) e))))
  only_there (w ∷ ws) i (suc k) h only =
      let next : i + suc k ≡ suc i + k = omega arith in
      by_if
      (λ (r : Option Word). r
      ≡ (when spelled_at (get_or ws k []) s at then listed (i + suc k) (length (get_or ws k [])) else None))
      (spelled_at w s at) _ _
      (λ e. absurd (omega (arith, only 0 (omega arith) e)))
      (λ e. rw next (only_there ws (suc i) k (omega arith) (λ j l q. omega (arith, only (suc j) (omega arith) q))))

-- ---- the month at a place
module _ (s : List ℕ) (bytes : (i : ℕ) → byte_at s i < 256) (at : ℕ) (short : Bool) where
  abbrev x : ℕ
  x = letters_at s at

  abbrev slot : ℕ
  slot = slot_of x

  abbrev left : ℕ
  left = left_in short (row_in slot)

  abbrev w : List ℕ
  w = name_by short slot

  -- the test of the letters that are compared at once
  abbrev pub begun : Bool
  begun = eqb (x % 2 ^ (64 - left)) (number_in slot % 2 ^ (64 - left))

  known : Slot short slot
  known = slot_is short slot (mod-lt (x % 2 ^ 24 * 101 / 2 ^ 16) (omega arith))

  pub left_fits : left < 64
  left_fits = known.fits

  few : length (words short) ≡ 12
  few = (elim short as (λ b. length (words b) ≡ 12) [ true ↦ refl | false ↦ refl ])

  own_month : (j : ℕ) → j < length (words short) → own short j (get_or (words short) j []) ≡ true
  own_month = entry (own short) [] (words short) (all_own short)

  -- the letters of a month, m of them compared at once
  letters_there : (j m : ℕ) → j < length (words short) → m ≤ 8 → m ≤ length (get_or (words short) j [])
      → let v = get_or (words short) j [] in
      spelled_at v s at ≡ (eqb (x % 2 ^ (8 * m)) (packed (map folded (take m v))) && spelled_at (drop m v) s (at + m))
  letters_there j m h l e =
      rw (letters_is s bytes at) (first_letters s bytes m 8 at 0 _ l e (both _ _ (own_month j h)).0)

  -- a month that is there is the one of the slot
  only : (j : ℕ) → j < length (words short) → spelled_at (get_or (words short) j []) s at ≡ true → j ≡ month_in slot
  only j h e =
      let on_letters = both (all_letters 0 (get_or (words short) j [])) _ (own_month j h) in
      let on_length = both (leb 3 (length (get_or (words short) j []))) _ on_letters.1 in
      let three = letters_there j 3 h (omega arith) (leb-true _ _ on_length.0) in
      let first = both (eqb (x % 2 ^ 24) _) _ (sym three ∙ e) in
      let key : x % 2 ^ 24 ≡ packed (map folded (take 3 (get_or (words short) j []))) = eqb-true _ _ first.0 in
      sym (ap (λ (key : ℕ). month_in (key * 101 / 2 ^ 16 % 16)) key ∙ eqb-true _ _ on_length.1)

  is_there : word_at (month_list short) s at ≡ (when spelled_at w s at then listed (month_in slot) (length w) else None)
  unfolding word_at
  is_there = rw zero-add at (only_there s at (words short) 0 (month_in slot) (omega (arith, few, known.month)) only)

  -- how many letters are compared at once
  abbrev m : ℕ
  m = at_once short slot

  by_letters : spelled_at w s at ≡ (begun && spelled_at (drop m w) s (at + m))
  by_letters =
      rw (known.bits, known.number)
      (letters_there (month_in slot) m (omega (arith, few, known.month)) (omega arith) (omega arith))

  pub other_letters : begun ≡ false → None ≡ word_at (month_list short) s at
  other_letters e = sym (rw (is_there, by_letters, e))

  -- the letters that are compared at once are the same
  module _ (e : begun ≡ true) where
    by_rest
        : word_at (month_list short) s at
        ≡ (when spelled_at (drop m w) s (at + m) then listed (month_in slot) (length w) else None)
    by_rest = rw (is_there, by_letters, e)

    -- there is a ninth
    module _ (long : length w ≡ 9) where
      ninth : drop m w ≡ code "r" ∷ []
      ninth = known.rest ∙ rw (eq-eqb (length w) 9 long)

      place : at + m ≡ at + 8
      place = omega arith

    is_ninth : length w ≡ 9 → folded (byte_at s (at + 8)) ≡ code "r" → spelled_at (drop m w) s (at + m) ≡ true
    is_ninth l q = rw (ninth l, place l, q)

    pub other_ninth
        : length_in short (row_in slot) ≡ 9 → (folded (byte_at s (at + 8)) ≡ code "r" → ⊥)
        → None ≡ word_at (month_list short) s at
    other_ninth l q =
        let long = sym known.size ∙ l in
        sym (by_rest ∙ rw (ninth long, place long, ne_eqb (folded (byte_at s (at + 8))) (code "r") q))

    the_month
        : spelled_at (drop m w) s (at + m) ≡ true
        → listed (row_in slot / 16 % 16) (length_in short (row_in slot)) ≡ word_at (month_list short) s at
    the_month q = sym (by_rest ∙ rw (q, known.index, known.size))

    pub same_letters
        : (length_in short (row_in slot) ≡ 9 → folded (byte_at s (at + 8)) ≡ code "r")
        → listed (row_in slot / 16 % 16) (length_in short (row_in slot)) ≡ word_at (month_list short) s at
    same_letters q = the_month (split (eqb (length w) 9) refl)
      where
        split : (b : Bool) → eqb (length w) 9 ≡ b → spelled_at (drop m w) s (at + m) ≡ true
        split true d = let long = eqb-true (length w) 9 d in is_ninth long (q (known.size ∙ long))
        split false d = rw (known.rest, d)
