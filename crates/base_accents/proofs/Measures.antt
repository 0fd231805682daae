-- Laws of a character's length in both modes. Assumes nothing.
-- `counted`: a length that was found is at least 1 where a byte is left, and within the text. `count`: the same of the
-- length itself. `char_first`: it begins with a whole sequence of UTF-8.
-- `mark_left`, `measure_left`: what is at a place is at the front of what is left from there on.
-- `letter_whole`: after a letter with its marks no mark follows. `mark_char`, `mark_alone`: a mark has two bytes, and
-- where a character begins it counts alone. `plain_one`: a byte of ASCII that is no letter is one
-- character in both modes. `ascii_one`: so is any byte of ASCII before one that begins no mark.
-- `usual_is`: the usual length, where there is one, is the length in both modes. `usual_within`: it is within the text.
use mathlib.Core.Path.{◌≡◌, ◌∙◌, refl}
use mathlib.Core.Bool.{Bool, true, false, ◌&&◌, and-false}
use mathlib.Core.List.{List}
use Prim.Native.Nat.{ℕ, ◌+◌, ◌-◌, ◌≤◌, ◌<◌, min}
use native.Mathlib.Nat.{add_assoc, add-zero, sub-zero, zero-add}
use native.Mathlib.Omega.{arith}
use borrow.Author.Tests.{le-ltb, lt-ltb, ltb-true}
use Rattle.std.specs.Prelude.{Option, Some, None}
use Rattle.std.proofs.lemmas.Option.{none-some, same_Some}
use lib.Dec.{ltb}
use lib.ListN.{length, drop, length-drop}
use lib.Seq.{drop-drop, get_or-drop}
use Rattle.base_notation.specs.Text.{byte_at}
use Rattle.base_notation.proofs.Cases.{by_if}
use Rattle.base_chars.specs.Character.{char_length}
use Rattle.base_chars.specs.Class.{is_letter}
use Rattle.base_chars.specs.Range.{◌‥◌, ◌∈◌}
use Rattle.base_chars.proofs.Characters.{lead_one, lead_two, measure}
use Rattle.base_chars.proofs.Ranges.{bounds}
use Rattle.base_accents.specs.Accents.{Counted, letter_at, mark_at, marks, measure_of, usual_length}
use Rattle.base_accents.proofs.Marks.{MarkBytes, mark_bytes, low_no_mark, mark_there, marks_done, marks_stop, marks_within, no_marks}

pub count : (accents : Bool) (s : List ℕ) (at : ℕ) → Counted accents s at (measure_of accents s at)
unfolding measure_of
count accents s at =
    let n = char_length s at in
    let one = measure s at in
    let more = marks_within (drop (at + n) s) in
    let left = length-drop (at + n) s in
    let size : (min 1 (length s - at) ≤ measure_of accents s at) × (measure_of accents s at ≤ length s - at)
    = by_if (λ (k : ℕ). (min 1 (length s - at) ≤ k) × (k ≤ length s - at)) (accents && letter_at s at) (n + marks (drop (at + n) s)) n
    (λ e. (omega (arith, one.some), omega (arith, one.within))) (λ e. (omega (arith, one.some), omega (arith, one.within))) in
    record { is = refl; some = size.0; within = size.1 }

pub char_first : (accents : Bool) (s : List ℕ) (at : ℕ) → char_length s at ≤ measure_of accents s at
unfolding measure_of
char_first accents s at =
    by_if (λ (k : ℕ). char_length s at ≤ k) (accents && letter_at s at) _ (char_length s at) (λ e. omega arith) (λ e. omega arith)

pub counted : (accents : Bool) (s : List ℕ) (at r : ℕ) → r ≡ measure_of accents s at → Counted accents s at r
counted accents s at r e = let it = count accents s at in record { is = e; some = omega (arith, it.some); within = omega (arith, it.within) }

-- the character at a place is the first of what is left from there on
module _ (s : List ℕ) (at : ℕ) where
  char_left : char_length (drop at s) 0 ≡ char_length s at
  unfolding char_length
  char_left = rw (get_or-drop at s 0 0, add-zero at, length-drop at s, sub-zero)

  pub mark_left : mark_at (drop at s) 0 ≡ mark_at s at
  unfolding mark_at
  mark_left = rw (get_or-drop at s 0 0, get_or-drop at s 1 0, add-zero at)

  letter_left : letter_at (drop at s) 0 ≡ letter_at s at
  unfolding letter_at
  letter_left = rw (mark_left, get_or-drop at s 0 0, add-zero at)

  pub measure_left : (accents : Bool) → measure_of accents (drop at s) 0 ≡ measure_of accents s at
  unfolding measure_of
  measure_left accents = rw (char_left, letter_left, zero-add, drop-drop)

  -- a letter has all marks right after it: no mark follows
  pub letter_whole : letter_at s at ≡ true → mark_at s (at + measure_of true s at) ≡ false
  unfolding measure_of
  letter_whole e =
      let n = char_length s at in
      let past = marks_done (drop (at + n) s) in
      rw (e, ← add_assoc at n (marks (drop (at + n) s))) (no_marks s (at + n + marks (drop (at + n) s)) (rw drop-drop at past))

  -- a byte of ASCII that is no letter is a character by itself
  pub plain_one : (accents : Bool) → at < length s → byte_at s at < 0x80 → is_letter (byte_at s at) ≡ false → measure_of accents s at ≡ 1
  unfolding measure_of letter_at char_length
  plain_one accents h small e =
      rw (lt-ltb (byte_at s at) 0x80 small, e, and-false accents) (omega (arith, lead_one (byte_at s at) (omega arith)))

  -- where no mark begins after a sequence of UTF-8, it is a character by itself
  bare : (accents : Bool) (n : ℕ) → char_length s at ≡ n → byte_at s (at + n) < 0xcc → measure_of accents s at ≡ n
  unfolding measure_of
  bare accents n one next =
      let none = marks_stop s (at + n) (low_no_mark s (at + n) next) in
      rw one (by_if (λ (k : ℕ). k ≡ n) (accents && letter_at s at) _ n (λ e. rw none (add-zero n)) (λ e. refl))

  -- a byte of ASCII before one that begins no mark
  pub ascii_one : (accents : Bool) → at < length s → byte_at s at < 0x80 → byte_at s (at + 1) < 0xcc → measure_of accents s at ≡ 1
  unfolding char_length
  ascii_one accents h small next = bare accents 1 (omega (arith, lead_one (byte_at s at) (omega arith))) next

  -- what holds of none, and of 1 and 2 where they are the usual length, holds of that length
  by_usual : (P : Option ℕ → Type 0) → P None → (byte_at s at < 0x80 → byte_at s (at + 1) < 0xcc → P (Some 1))
      → (0xc0 ≤ byte_at s at → byte_at s at ≤ 0xcb → byte_at s (at + 2) < 0xcc → P (Some 2)) → P (usual_length s at)
  unfolding usual_length
  by_usual P none one two =
      by_if P (ltb (byte_at s at) 0x80) _ _
      (λ small. by_if P (ltb (byte_at s (at + 1)) 0xcc) (Some 1) None (λ next. one (ltb-true _ _ small) (ltb-true _ _ next)) (λ next. none))
      (λ wide. by_if P (byte_at s at ∈ 0xc0 ‥ 0xcb) _ None
      (λ first. let range = bounds (0xc0 ‥ 0xcb) (byte_at s at) first in
      by_if P (ltb (byte_at s (at + 2)) 0xcc) (Some 2) None (λ next. two range.0 range.1 (ltb-true _ _ next)) (λ next. none))
      (λ other. none))

  module _ (room : at + 1 < length s) where
    pub usual_is : (n : ℕ) → usual_length s at ≡ Some n → (accents : Bool) → measure_of accents s at ≡ n
    unfolding char_length
    usual_is n e accents =
        by_usual (λ o. o ≡ Some n → measure_of accents s at ≡ n) (λ none. absurd (none-some n none))
        (λ small next one. ascii_one accents (omega arith) small next ∙ same_Some 1 n one)
        (λ from to next two. bare accents 2 (omega (arith, lead_two (byte_at s at) from (omega arith))) next ∙ same_Some 2 n two) e

    pub usual_within : (n : ℕ) → usual_length s at ≡ Some n → n ≤ length s - at
    usual_within n e =
        by_usual (λ o. o ≡ Some n → n ≤ length s - at) (λ none. absurd (none-some n none))
        (λ small next one. omega (arith, same_Some 1 n one)) (λ from to next two. omega (arith, same_Some 2 n two)) e

  -- a mark has two bytes, and counts alone where a character begins
  module _ (e : mark_at s at ≡ true) where
    bytes : MarkBytes (byte_at s at) (byte_at s (at + 1))
    unfolding mark_at
    bytes = mark_bytes (byte_at s at) (byte_at s (at + 1)) e

    pub mark_char : char_length s at ≡ 2
    unfolding char_length
    mark_char =
        omega (arith, lead_two (byte_at s at) (omega (arith, bytes.first_from)) (omega (arith, bytes.first_to)), mark_there s at e)

    pub mark_alone : measure_of true s at ≡ 2
    unfolding measure_of letter_at
    mark_alone = rw (le-ltb (byte_at s at) 0x80 (omega (arith, bytes.first_from)), e) mark_char
