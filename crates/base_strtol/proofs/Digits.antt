-- Digits read one by one up to a limit: the number is held at the limit once it is beyond it. Assumes nothing.
-- `limits`: both limits are near 2 ^ 63.
-- `Reading`: what is known after some digits were read. `begun`: before the first.
-- `more`, `full`: after a digit that leaves the number within the limit, and after one that takes it beyond.
-- `stopped`, `ended`: at a byte that is no digit, and at the end of the text, all digits are read.
use mathlib.Core.Path.{◌≡◌, ◌∙◌, refl, sym, ap}
use mathlib.Core.Bool.{Bool, true, false}
use mathlib.Core.List.{List}
use Prim.Native.Nat.{ℕ, ◌+◌, ◌-◌, ◌*◌, ◌/◌, ◌^◌, ◌≤◌, ◌<◌, min}
use native.Mathlib.Omega.{arith}
use borrow.Author.Tests.{lt-ltb, le-ltb}
use lib.Dec.{ltb}
use lib.ListN.{length, drop}
use Rattle.base_notation.specs.Text.{byte_at}
use Rattle.base_chars.specs.Class.{is_digit}
use Rattle.base_chars.proofs.Classes.{digit_bounds}
use Rattle.base_strtol.specs.Runs.{digits, number, number_from}
use Rattle.base_strtol.specs.Strtol.{limit, digits_read}
use Rattle.base_strtol.proofs.Leading.{leading_on, leading_stop, leading_end, number_on, number_stop, number_end}

pub limits : (neg : Bool) (most : ℕ) → most ≡ limit neg → (2 ^ 63 - 1 ≤ most) × (most ≤ 2 ^ 63)
limits true most e = omega arith
limits false most e = omega arith

-- the digits from at to i are read, and n is their number: value is n held at the limit, over whether n is beyond it;
-- n with the digits from i on is the number of all digits, and they end at the same place
pub record Reading (most : ℕ) (s : List ℕ) (at value : ℕ) (over : Bool) (i : ℕ) : Type 0 where
  pub n : ℕ
  pub held : value ≡ min n most
  pub beyond : over ≡ ltb most n
  pub same : number_from n (drop i s) ≡ number (drop at s)
  pub ends : i + digits (drop i s) ≡ at + digits (drop at s)

module _ (most : ℕ) (s : List ℕ) (at : ℕ) where
  pub begun : Reading most s at 0 false at
  begun = record { n = 0; held = omega arith; beyond = sym (le-ltb most 0 (omega arith)); same = refl; ends = refl }

  module _ (value : ℕ) (over : Bool) (i : ℕ) (r : Reading most s at value over i) where
    abbrev Answer : ℕ → Type 0
    Answer lim = record { value = value; end = i; over = over } ≡ digits_read lim at (drop at s)

    -- where no digit is left, n is the number of all digits
    finish : (lim : ℕ) → most ≡ lim → number_from r.n (drop i s) ≡ r.n → digits (drop i s) ≡ 0 → Answer lim
    finish lim m e d =
        let whole : r.n ≡ number (drop at s) = sym e ∙ r.same in
        let at_end : i ≡ at + digits (drop at s) = omega (arith, r.ends) in
        λ j. record {
          value = (r.held ∙ ap (λ (n : ℕ). min n most) whole ∙ ap (min (number (drop at s))) m) j;
          end = at_end j;
          over = (r.beyond ∙ ap (λ (n : ℕ). ltb most n) whole ∙ ap (λ (k : ℕ). ltb k (number (drop at s))) m) j;
        }

    pub stopped : (lim : ℕ) → most ≡ lim → i < length s → is_digit (byte_at s i) ≡ false → Answer lim
    stopped lim m h e = finish lim m (number_stop r.n s i h e) (leading_stop is_digit s i h e)

    pub ended : (lim : ℕ) → most ≡ lim → length s ≤ i → Answer lim
    ended lim m h = finish lim m (number_end r.n s i h) (leading_end is_digit s i h)

    module _ (h : i < length s) (e : is_digit (byte_at s i) ≡ true) (large : 9 ≤ most) where
      -- the number with that digit
      abbrev next : ℕ
      next = r.n * 10 + (byte_at s i - 48)

      digit : byte_at s i - 48 ≤ 9
      digit = omega (arith, digit_bounds (byte_at s i) e)

      -- after one digit more
      on : (value' : ℕ) (over' : Bool) → value' ≡ min next most → over' ≡ ltb most next → Reading most s at value' over' (i + 1)
      on value' over' v o =
          record {
            n = next;
            held = v;
            beyond = o;
            same = sym (number_on r.n s i h e) ∙ r.same;
            ends = omega (arith, leading_on is_digit s i h e, r.ends);
          }

      -- a digit that takes the number beyond the limit, or further beyond it
      pub full : (most - (byte_at s i - 48)) / 10 < value → Reading most s at most true (i + 1)
      full f = on most true (omega (arith, r.held, digit)) (sym (lt-ltb most next (omega (arith, r.held, digit))))

      -- a digit that leaves it within the limit
      pub more : value ≤ (most - (byte_at s i - 48)) / 10 → Reading most s at (value * 10 + (byte_at s i - 48)) over (i + 1)
      more f =
          let before : ltb most r.n ≡ false = le-ltb most r.n (omega (arith, r.held, digit)) in
          let after : ltb most next ≡ false = le-ltb most next (omega (arith, r.held, digit)) in
          on (value * 10 + (byte_at s i - 48)) over (omega (arith, r.held, digit)) (r.beyond ∙ before ∙ sym after)
