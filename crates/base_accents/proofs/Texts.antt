-- Characters of both modes in texts. Assumes nothing.
-- `mark_kept`, `measure_kept`: a whole character is a mark, and is as long, where what follows it is replaced; in the
-- accents mode by what begins with no mark.
-- `past_character`, `whole_character`: in UTF-8 a character ends where another begins, and is UTF-8 by itself.
use mathlib.Core.Path.{◌≡◌, ◌∙◌, refl, sym, ap}
use mathlib.Core.Bool.{Bool, true, false, ◌&&◌}
use mathlib.Core.List.{List, [], ◌∷◌, ◌++◌, append_assoc}
use Prim.Native.Nat.{ℕ, suc, ◌+◌, ◌≤◌, ◌<◌}
use native.Mathlib.Nat.{add_assoc, zero-add}
use native.Mathlib.Omega.{arith}
use borrow.Author.Tests.{eqb-true}
use lib.Dec.{eqb, lit<}
use lib.ListN.{length, take, drop, length-append, length-take, get_or-append}
use lib.Seq.{drop-drop, drop_at, get_or-take, take-add}
use Rattle.base_notation.specs.Choice.{when◌then◌else◌}
use Rattle.base_notation.specs.Text.{byte_at}
use Rattle.base_notation.proofs.Cases.{both}
use Rattle.base_chars.specs.Character.{char_length, lead}
use Rattle.base_chars.specs.Range.{◌‥◌, ◌∈◌}
use Rattle.base_chars.specs.Utf8.{sequence, well_formed}
use Rattle.base_chars.proofs.Characters.{lead_two, lead_bounds}
use Rattle.base_chars.proofs.Ranges.{inside}
use Rattle.base_chars.proofs.Sequences.{at_row}
use Rattle.base_chars.proofs.WellFormed.{append_text, empty_text, next_boundary, one_character, past_sequence_at}
use Rattle.base_accents.specs.Accents.{is_mark, letter_at, mark_at, marks, measure_of}
use Rattle.base_accents.proofs.Marks.{mark_bytes, marks_kept, marks_stop}

-- a mark is a sequence of two bytes
mark_sequence : (b c : ℕ) (u : List ℕ) → is_mark b c ≡ true → 2 ≡ sequence (b ∷ c ∷ u)
mark_sequence b c u e =
    let bytes = mark_bytes b c e in
    let row = at_row (b ∷ c ∷ u) 0 (omega arith) 1 (lit< tt) (omega (arith, bytes.first_from)) (omega (arith, bytes.first_to)) in
    rw (inside (0x80 ‥ 0xbf) c bytes.second_from bytes.second_to) at row

-- the text after the marks in front is UTF-8 where the whole is
past_marks : (u : List ℕ) → well_formed (drop (marks u) u) ≡ well_formed u
unfolding marks
past_marks [] = refl
past_marks (b ∷ []) = refl
past_marks (b ∷ c ∷ u) =
    (elim (is_mark b c) as (λ k. is_mark b c ≡ k → well_formed (drop (when k then suc (suc (marks u)) else 0) (b ∷ c ∷ u)) ≡ well_formed (b ∷ c ∷ u)) [
      | true ↦ λ k. past_marks u ∙ past_sequence_at (b ∷ c ∷ u) 0 2 (mark_sequence b c u k)
      | false ↦ λ k. refl
    ]) refl

-- marks by themselves are UTF-8
marks_text : (u : List ℕ) → well_formed (take (marks u) u) ≡ true
unfolding marks
marks_text [] = empty_text
marks_text (b ∷ []) = empty_text
marks_text (b ∷ c ∷ u) =
    (elim (is_mark b c) as (λ k. is_mark b c ≡ k → well_formed (take (when k then suc (suc (marks u)) else 0) (b ∷ c ∷ u)) ≡ true) [
      | true ↦ λ k. sym (past_sequence_at (b ∷ c ∷ take (marks u) u) 0 2 (mark_sequence b c (take (marks u) u) k)) ∙ marks_text u
      | false ↦ λ k. empty_text
    ]) refl

module _ (accents : Bool) (s : List ℕ) (at : ℕ) (e : well_formed (drop at s) ≡ true) where
  abbrev n : ℕ
  n = char_length s at

  abbrev more : ℕ
  more = marks (drop (at + n) s)

  pub past_character : well_formed (drop (at + measure_of accents s at) s) ≡ true
  unfolding measure_of
  past_character = by (accents && letter_at s at)
    where
      with_marks : well_formed (drop (at + (n + more)) s) ≡ true
      with_marks = rw (← add_assoc at n more, ← drop-drop more (at + n) s) (past_marks (drop (at + n) s) ∙ next_boundary s at e)

      by : (k : Bool) → well_formed (drop (at + (when k then n + more else n)) s) ≡ true
      by true = with_marks
      by false = next_boundary s at e

  pub whole_character : at < length s → well_formed (take (measure_of accents s at) (drop at s)) ≡ true
  unfolding measure_of
  whole_character h = by (accents && letter_at s at)
    where
      with_marks : well_formed (take (n + more) (drop at s)) ≡ true
      with_marks =
          rw (take-add n more (drop at s), drop-drop n at s)
          (append_text (take n (drop at s)) (take more (drop (at + n) s)) (one_character s at h e) ∙ marks_text (drop (at + n) s))

      by : (k : Bool) → well_formed (take (when k then n + more else n) (drop at s)) ≡ true
      by true = with_marks
      by false = one_character s at h e

-- two texts begin alike: with the same byte, and the same next one where the first says that there is one
record Alike (u w : List ℕ) : Type 0 where
  first : byte_at w 0 ≡ byte_at u 0
  second : 2 ≤ lead (byte_at u 0) → byte_at w 1 ≡ byte_at u 1

module _ (u w : List ℕ) (a : Alike u w) where
  abbrev b : ℕ
  b = byte_at u 0

  same_mark : mark_at w 0 ≡ mark_at u 0
  unfolding mark_at
  same_mark = rw a.first (by (eqb b 0xcc) (eqb b 0xcd) refl refl)
    where
      two : 0xcc ≤ b → b ≤ 0xcd → byte_at w 1 ≡ byte_at u 1
      two l h = a.second (omega (arith, lead_two b (omega arith) (omega arith)))

      by : (p q : Bool) → eqb b 0xcc ≡ p → eqb b 0xcd ≡ q
          → (when p then byte_at w 1 ∈ 0x80 ‥ 0xbf else q && byte_at w 1 ∈ 0x80 ‥ 0xaf) ≡ (when p then byte_at u 1 ∈ 0x80 ‥ 0xbf else q && byte_at u 1 ∈ 0x80 ‥ 0xaf)
      by true q e f = rw (two (omega (arith, eqb-true b 0xcc e)) (omega (arith, eqb-true b 0xcc e)))
      by false true e f = rw (two (omega (arith, eqb-true b 0xcd f)) (omega (arith, eqb-true b 0xcd f)))
      by false false e f = refl

  same_letter : letter_at w 0 ≡ letter_at u 0
  unfolding letter_at
  same_letter = rw (a.first, same_mark)

module _ (u v : List ℕ) (whole : lead (byte_at u 0) ≤ length u) where
  -- the first m bytes, at least those of the first character, and v after them
  alike : (m : ℕ) → lead (byte_at u 0) ≤ m → Alike u (take m u ++ v)
  alike m h = record { first = byte 0 (omega (arith, lead_bounds (byte_at u 0))); second = λ two. byte 1 (omega (arith)) }
    where
      byte : (i : ℕ) → i < lead (byte_at u 0) → byte_at (take m u ++ v) i ≡ byte_at u i
      byte i l = get_or-append (take m u) v 0 i (omega (arith, length-take m u)) ∙ get_or-take m u i 0 (omega arith)

  pub mark_kept : (m : ℕ) → lead (byte_at u 0) ≤ m → mark_at (take m u ++ v) 0 ≡ mark_at u 0
  mark_kept m h = same_mark u (take m u ++ v) (alike m h)

  -- its first character has as many bytes
  char_kept : (m : ℕ) → lead (byte_at u 0) ≤ m → char_length (take m u ++ v) 0 ≡ char_length u 0
  unfolding char_length
  char_kept m h = rw (alike m h).first (omega (arith, length-append (take m u) v, length-take m u))

  long : char_length u 0 ≡ lead (byte_at u 0)
  unfolding char_length
  long = omega arith

  pub measure_kept : (accents : Bool) → (accents ≡ true → mark_at v 0 ≡ false) → measure_of accents (take (measure_of accents u 0) u ++ v) 0 ≡ measure_of accents u 0
  unfolding measure_of
  measure_kept accents clear = by (accents && letter_at u 0) refl
    where
      k : ℕ
      k = char_length u 0

      more : ℕ
      more = marks (drop (0 + k) u)

      by : (c : Bool) → (accents && letter_at u 0) ≡ c → measure_of accents (take (when c then k + more else k) u ++ v) 0 ≡ (when c then k + more else k)
      by true e =
          let tests = both accents (letter_at u 0) e in
          let enough : lead (byte_at u 0) ≤ k + more = omega (arith, long) in
          let size : length (take k u) ≡ k = omega (arith, length-take k u, long) in
          let parts : take (k + more) u ++ v ≡ take k u ++ (take more (drop k u) ++ v)
          = rw (take-add k more u) (append_assoc (take k u) (take more (drop k u)) v) in
          let rest : drop (0 + k) (take (k + more) u ++ v) ≡ take more (drop k u) ++ v
          = ap (λ (j : ℕ). drop j (take (k + more) u ++ v)) (zero-add k) ∙ rw parts (drop_at (take k u) (take more (drop k u) ++ v) k size) in
          let all : more ≡ marks (drop k u) = ap (λ (j : ℕ). marks (drop j u)) (zero-add k) in
          let same : marks (take more (drop k u) ++ v) ≡ more = rw all (marks_kept (drop k u) v (marks_stop v 0 (clear tests.0))) in
          rw (same_letter u (take (k + more) u ++ v) (alike (k + more) enough), e, char_kept (k + more) enough, rest) (ap (λ (j : ℕ). k + j) same)
      by false e = rw (same_letter u (take k u ++ v) (alike k (omega (arith, long))), e) (char_kept k (omega (arith, long)))
