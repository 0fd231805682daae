-- The seven numbers of a moment, item by item. Assumes nothing.
-- `begun`, `more`: the numbers stored, then those of the items that are left, are those of the text (`Read`).
-- `too_few`, `no_number`, `too_many`, `ended`: where they are not seven numbers there are only zeros, else they are
-- stored.
use mathlib.Core.Path.{◌≡◌, ◌∙◌, refl, ap}
use mathlib.Core.Bool.{and-false}
use mathlib.Core.List.{List, [], ◌∷◌, ◌++◌, append_assoc, append-nil}
use Prim.Native.Nat.{ℕ, zero, suc, ◌+◌, ◌-◌, ◌≤◌, ◌<◌}
use native.Mathlib.Numerals.{add-one}
use native.Mathlib.Omega.{arith}
use borrow.Author.Tests.{eq-eqb, ne_eqb}
use lib.IntN.{ℤ, pos}
use lib.ListN.{length, take, drop, set, replicate, length-set, length-take}
use lib.Seq.{drop-drop, take_all, take-suc-set}
use Rattle.line_buffers.specs.Input.{before}
use Rattle.line_numbers.specs.Items.{items_of, items_after}
use Rattle.line_numbers.specs.Numbers.{int_of}
use Rattle.std.proofs.Common.{Some, None}
use Rattle.line_numbers.proofs.Items.{first_item}
use Rattle.line_answers.specs.Moments.{numbers_in, seven_of}

-- the items that begin at a place or after it
abbrev pub left : List ℕ → ℕ → List (List ℕ)
left s zero = items_of s
left [] (suc at) = []
left (b ∷ s) (suc at) = left s at

after_drop : (s : List ℕ) (at : ℕ) → items_after (drop at s) ≡ left s (suc at)
after_drop [] zero = refl
after_drop [] (suc at) = refl
after_drop (b ∷ s) zero = refl
after_drop (b ∷ s) (suc at) = after_drop s at

left_within : (s : List ℕ) (at : ℕ) → at ≤ length s → left s at ≡ items_of (drop at s)
left_within s zero h = refl
left_within [] (suc at) h = absurd (omega arith)
left_within (b ∷ s) (suc at) h = left_within s at (omega arith)

-- past the text's end no item is left
none_left : (s : List ℕ) (at : ℕ) → length s < at → left s at ≡ []
none_left s zero h = absurd (omega arith)
none_left [] (suc at) h = refl
none_left (b ∷ s) (suc at) h = none_left s at (omega arith)

module _ (s : List ℕ) where
  -- the item at a place, and those after it
  left_on : (at end : ℕ) → at ≤ length s → end ≡ at + before 32 (drop at s) → left s at ≡ take (end - at) (drop at s) ∷ left s (end + 1)
  left_on at end h e =
      let size : end - at ≡ before 32 (drop at s) = omega arith in
      rw (left_within s at h, first_item (drop at s), size, add-one end, ← after_drop s end, e, drop-drop)

  -- where i numbers are stored and the next item is at a place
  pub record Read (values : List ℤ) (at i : ℕ) : Type 0 where
    pub within : i ≤ 7
    pub size : length values ≡ 7
    pub numbers : numbers_in (items_of s) ≡ take i values ++ numbers_in (left s at)
    pub count : length (items_of s) ≡ i + length (left s at)

  pub begun : (values : List ℤ) → length values ≡ 7 → Read values 0 0
  begun values h = record { within = omega arith; size = h; numbers = refl; count = omega arith }

  -- other than seven items
  no_seven : (length (items_of s) ≡ 7 → ⊥) → seven_of s ≡ replicate 7 (pos 0)
  unfolding seven_of
  no_seven h = rw (ne_eqb _ _ h)

  -- other than seven numbers
  no_numbers : (length (numbers_in (items_of s)) ≡ 7 → ⊥) → seven_of s ≡ replicate 7 (pos 0)
  unfolding seven_of
  no_numbers h = rw (ne_eqb (length (numbers_in (items_of s))) 7 h, and-false)

  module _ (values : List ℤ) (at i : ℕ) (r : Read values at i) where
    pub too_few : i < 7 → length s < at → seven_of s ≡ replicate 7 (pos 0)
    too_few l h =
        let none = ap length (none_left s at h) in
        no_seven (λ e. omega (arith, r.count))

    pub too_many : 7 ≤ i → at ≤ length s → seven_of s ≡ replicate 7 (pos 0)
    too_many l h =
        let one_more = ap length (left_on at _ h refl) in
        no_seven (λ e. omega (arith, r.count))

    pub ended : 7 ≤ i → length s < at → seven_of s ≡ values
    unfolding seven_of numbers_in
    ended l h =
        let items_are : length (items_of s) ≡ 7 = omega (arith, r.count, r.within, ap length (none_left s at h)) in
        let numbers_are : numbers_in (items_of s) ≡ values = r.numbers ∙ rw (none_left s at h, append-nil) (take_all i values (omega (arith, r.size))) in
        rw (eq-eqb _ _ items_are, numbers_are, eq-eqb (length values) 7 r.size)

    -- the item at the place, which ends before a space or the text does
    module _ (end : ℕ) (l : i < 7) (h : at ≤ length s) (e : end ≡ at + before 32 (drop at s)) where
      pub more : (n : ℤ) → int_of (take (end - at) (drop at s)) ≡ Some n → Read (set values i n) (end + 1) (i + 1)
      unfolding numbers_in
      more n v =
          let on = left_on at end h e in
          record {
            within = omega arith;
            size = length-set values i n ∙ r.size;
            numbers = r.numbers ∙ rw (on, v, add-one i, take-suc-set values i n (omega (arith, r.size)), append_assoc);
            count = omega (arith, r.count, ap length on);
          }

      pub no_number : int_of (take (end - at) (drop at s)) ≡ None → seven_of s ≡ replicate 7 (pos 0)
      unfolding numbers_in
      no_number v =
          let none_after : numbers_in (items_of s) ≡ take i values = r.numbers ∙ rw (left_on at end h e, v, append-nil) in
          no_numbers (λ q. omega (arith, ap length none_after, length-take i values))
