-- The bytes of the last item, in front of a buffer.
-- `no_item`, `no_bytes`, `no_text`, `whole_text`: what is read of them where there is no item, of `-`, of an item that
-- is not hexadecimal or has more bytes than there is room for, and of any other.
-- `text_front`: the bytes that are not malformed are in front of the buffer, and within it. Assumes nothing.
use mathlib.Core.Path.{◌≡◌, ◌∙◌, refl, sym}
use mathlib.Core.Bool.{Bool, true, false, false≢true, ◌&&◌, and-false}
use mathlib.Core.List.{List, [], ◌∷◌}
use Prim.Native.Nat.{ℕ, suc, ◌+◌, ◌-◌, ◌*◌, ◌≤◌, ◌<◌, min}
use native.Mathlib.Nat.{zero-add}
use native.Mathlib.Omega.{arith}
use borrow.Author.Tests.{lt-ltb, le-ltb, le-leb, leb-true, eq-eqb, ne_eqb}
use lib.Dec.{ltb, leb}
use lib.ListN.{length, take, drop, drop_of_length-le, length-drop}
use lib.Seq.{sets, sets-eq, take_all, take_at}
use Rattle.base_notation.specs.Text.{utf8}
use Rattle.line_buffers.specs.Output.{Put}
use Rattle.line_numbers.specs.Numbers.{bytes_of, byte_before, hex_digit}
use Rattle.line_questions.specs.Items.{same, is_hex, text_at, bytes_at, ReadBytes}
use Rattle.std.proofs.Common.{Option, Some, None}
use Rattle.std.proofs.lemmas.Option.{none-some, same_Some}

-- two digits are a byte
half : (s : List ℕ) → 2 * length (bytes_of s) ≤ length s
unfolding bytes_of
half [] = omega arith
half (a ∷ []) = omega arith
half (a ∷ b ∷ s) = one (hex_digit a) (hex_digit b) (bytes_of s) (length s) (half s)
  where
    one : (h l : Option ℕ) (bytes : List ℕ) (n : ℕ) → 2 * length bytes ≤ n → 2 * length (byte_before h l bytes) ≤ suc (suc n)
    one (Some h) (Some l) bytes n e = omega arith
    one (Some h) None bytes n e = omega arith
    one None l bytes n e = omega arith

module _ (line : List ℕ) (from : ℕ) (before : List ℕ) where
  pub no_item : length line ≤ from → ReadBytes line from before before None
  unfolding bytes_at bytes_of
  no_item h =
      record {
        is = rw (le-ltb from (length line) h);
        front = rw (drop_of_length-le line {i = from + 1} (omega arith));
      }

  -- the item as the code has it
  abbrev item : List ℕ
  item = take (length line - (from + 1)) (drop (from + 1) line)

  item_is : item ≡ drop (from + 1) line
  item_is = take_all (length line - (from + 1)) (drop (from + 1) line) (omega (arith, length-drop (from + 1) line))

  module _ (after : List ℕ) (count : ℕ) (within : from < length line) (p : Put before 0 (bytes_of item) after count) where
    front : after ≡ sets before 0 (text_at line from)
    front = p.is ∙ rw item_is

    size : length (drop (from + 1) line) ≡ length line - (from + 1)
    size = length-drop (from + 1) line

    count_is : count ≡ min (length (text_at line from)) (length before)
    count_is = omega (arith, rw item_is at p.next)

    pub no_bytes : item ≡ utf8 "-" → ReadBytes line from before after (Some 0)
    unfolding bytes_at bytes_of
    no_bytes e =
        record {
          is = rw (sym item_is ∙ e, lt-ltb from (length line) within, le-leb 0 (length before) (omega arith));
          front = front;
        }

    module _ {dash : List ℕ} (is : dash ≡ utf8 "-") (other : false ≡ same item dash) where
      not_dash : same (drop (from + 1) line) (utf8 "-") ≡ false
      not_dash = sym (rw (is, item_is) at other)

      pub no_text : (2 * count ≡ length line - (from + 1) → ⊥) → ReadBytes line from before after None
      unfolding bytes_at
      no_text n =
          record {
            is =
                (elim (leb (length (text_at line from)) (length before)) as (λ t. leb (length (text_at line from)) (length before) ≡ t → None ≡ bytes_at line from (length before)) [
                  | true ↦ λ e.
                      let fit = leb-true (length (text_at line from)) (length before) e in
                      rw (
                        not_dash,
                        ne_eqb (2 * length (text_at line from)) (length (drop (from + 1) line)) (λ q. n (omega (arith, count_is, size))),
                        lt-ltb from (length line) within,
                      )
                  | false ↦ λ e. rw (e, and-false, and-false)
                ]) refl;
            front = front;
          }

      pub whole_text : 2 * count ≡ length line - (from + 1) → ReadBytes line from before after (Some count)
      unfolding bytes_at
      whole_text e =
          let most = half (drop (from + 1) line) in
          let all : count ≡ length (text_at line from) = omega (arith, count_is, size) in
          record {
            is = rw (
              not_dash,
              eq-eqb (2 * length (text_at line from)) (length (drop (from + 1) line)) (omega (arith, size)),
              lt-ltb from (length line) within,
              le-leb (length (text_at line from)) (length before) (omega (arith, count_is)),
              all,
            );
            front = front;
          }

last_holds : (a b c : Bool) → a && (b && c) ≡ true → c ≡ true
last_holds true true c e = e
last_holds true false c e = absurd (false≢true e)
last_holds false b c e = absurd (false≢true e)

-- the text that was read
pub text_front : {line before after : List ℕ} {from n : ℕ} → ReadBytes line from before after (Some n)
    → (n ≤ length before) × (take n after ≡ text_at line from)
unfolding bytes_at
text_front {line} {before} {after} {from} {n} p =
    split (ltb from (length line) && (is_hex (drop (from + 1) line) && leb (length (text_at line from)) (length before))) refl
  where
    split : (t : Bool) → ltb from (length line) && (is_hex (drop (from + 1) line) && leb (length (text_at line from)) (length before)) ≡ t
        → (n ≤ length before) × (take n after ≡ text_at line from)
    split true q =
        let size = length (text_at line from) in
        let is : n ≡ size = same_Some _ _ (rw q at p.is) in
        let fits = leb-true size (length before) (last_holds (ltb from (length line)) (is_hex (drop (from + 1) line)) (leb size (length before)) q) in
        (rw is fits, rw (is, p.front, sets-eq (text_at line from) before 0 (omega arith), zero-add) (take_at (text_at line from) (drop size before) size refl))
    split false q = absurd (none-some _ (sym (rw q at p.is)))
