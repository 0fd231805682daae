-- The numbers of items, read one by one.
-- `begun`, `more`: the numbers read, then those of the items that are left, are the line's (`Read`), at first and with
-- a number more. `ended`: no item is left. `no_number`, `too_many`: an item that is no number, and a fourth one.
-- Assumes nothing.
use mathlib.Core.Path.{◌≡◌, refl, ap}
use mathlib.Core.Bool.{true, false, and-false}
use mathlib.Core.List.{List, [], ◌∷◌, ◌++◌, append_assoc, append-nil, map}
use Prim.Native.Nat.{ℕ, suc, ◌+◌, ◌-◌, ◌≤◌, ◌<◌}
use native.Mathlib.Omega.{arith}
use borrow.Author.Tests.{le-leb, lt-leb}
use Rattle.std.proofs.Common.{Option, Some, None}
use lib.IntN.{ℤ, pos}
use lib.ListN.{length, set, replicate, length-append, length-map}
use lib.Seq.{set_at}
use Rattle.line_numbers.specs.Numbers.{int_of}
use Rattle.line_questions.specs.Items.{are_numbers, value_of, numbers, numbers_of, numbers_at, items_at}

-- numbers alone
all_numbers : (zs : List ℤ) → are_numbers (map Some zs) ≡ true
unfolding are_numbers
all_numbers [] = refl
all_numbers (z ∷ zs) = all_numbers zs

values_back : (zs : List ℤ) → map value_of (map Some zs) ≡ zs
values_back [] = refl
values_back (z ∷ zs) = ap (λ (l : List ℤ). z ∷ l) (values_back zs)

numbers_of_lem : (zs : List ℤ) → length zs ≤ 3 → numbers_of (map Some zs) ≡ numbers zs
unfolding numbers_of
numbers_of_lem zs h = rw (all_numbers zs, length-map zs Some, le-leb (length zs) 3 h, values_back zs)

-- an item that is none
one_is_none : (zs : List ℤ) (ns : List (Option ℤ)) → are_numbers (map Some zs ++ None ∷ ns) ≡ false
unfolding are_numbers
one_is_none [] ns = refl
one_is_none (z ∷ zs) ns = one_is_none zs ns

-- the numbers read up to a place
pub record Read (line : List ℕ) (from : ℕ) (values : List ℤ) (count at : ℕ) : Type 0 where
  pub done : List ℤ
  pub few : length done ≤ 3
  pub size : length done ≡ count
  pub values_are : values ≡ done ++ replicate (3 - count) (pos 0)
  pub whole : numbers_of (map Some done ++ map int_of (items_at line at)) ≡ numbers_at line from

pub begun : (line : List ℕ) (from : ℕ) → Read line from (replicate 3 (pos 0)) 0 from
begun line from = record { done = []; few = omega arith; size = refl; values_are = refl; whole = refl }

-- a number in place of the first zero
put : (done : List ℤ) (count : ℕ) (n : ℤ) → length done ≡ count → count ≤ 2
    → set (done ++ replicate (3 - count) (pos 0)) count n ≡ (done ++ n ∷ []) ++ replicate (3 - (count + 1)) (pos 0)
put done count n e h =
    let left : 3 - count ≡ suc (3 - (count + 1)) = omega arith in
    rw (left, append_assoc) (set_at done (pos 0) (replicate (3 - (count + 1)) (pos 0)) n count e)

map-append : (xs ys : List ℤ) → map Some (xs ++ ys) ≡ map Some xs ++ map Some ys
map-append [] ys = refl
map-append (x ∷ xs) ys = ap (λ (l : List (Option ℤ)). Some x ∷ l) (map-append xs ys)

module _ {line : List ℕ} {from : ℕ} {values : List ℤ} {count at : ℕ} (d : Read line from values count at) where
  pub ended : items_at line at ≡ [] → record { values = values; count = count } ≡ numbers_at line from
  ended e =
      rw (← d.whole, e, append-nil, numbers_of_lem d.done d.few, d.values_are, d.size)

  module _ (item : List ℕ) (end : ℕ) (items : items_at line at ≡ item ∷ items_at line end) where
    pub no_number : int_of item ≡ None → numbers [] ≡ numbers_at line from
    unfolding numbers_of
    no_number e =
        rw (← d.whole, items, e, one_is_none d.done (map int_of (items_at line end)))

    pub too_many : 2 < count → numbers [] ≡ numbers_at line from
    unfolding numbers_of
    too_many h =
        let all = map Some d.done ++ int_of item ∷ map int_of (items_at line end) in
        let many : 3 < length all = rw length-append (omega (arith, length-map d.done Some, d.size)) in
        rw (← d.whole, items, lt-leb (length all) 3 many, and-false)

    pub more : (n : ℤ) → int_of item ≡ Some n → count ≤ 2 → Read line from (set values count n) (count + 1) end
    more n e h =
        record {
          done = d.done ++ n ∷ [];
          few = rw length-append (omega (arith, d.size));
          size = rw length-append (omega (arith, d.size));
          values_are = rw d.values_are (put d.done count n d.size h);
          whole = rw (map-append d.done (n ∷ []), append_assoc, ← e) (rw items at d.whole);
        }
