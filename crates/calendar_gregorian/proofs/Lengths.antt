-- The table of month lengths has the calendar's, and the days of the first months. Assumes nothing.
-- `rows`: the table, as the code has it. `row_length`: the row of a year has twelve months.
-- `next_month`: the days of the first i months, with the length of the next, are the days of the first i + 1.
-- `days_passed`: the days of the months before a month are the definition's.
-- `sum-suc`, `sum-take-le`: the sum of one number more, and of all.
use mathlib.Core.Path.{◌≡◌, refl, ◌∙◌, ap}
use mathlib.Core.Bool.{Bool, true, false}
use mathlib.Core.List.{List, [], ◌∷◌, map}
use Prim.Native.Nat.{ℕ, zero, suc, ◌+◌, ◌-◌, ◌≤◌, ◌<◌, min}
use native.Mathlib.Numerals.{add-one}
use native.Mathlib.Omega.{arith}
use borrow.Author.Tests.{leb-true, leb-false}
use lib.Dec.{leb}
use lib.IntN.{ℤ, pos, ◌+ℤ◌}
use lib.ListN.{get_or, get_or-map, length, take}
use lib.Seq.{take_all}
use mir.Syntax.{w32}
use mir.Val.{to_z, of_z, bool_byte}
use Rattle.std.proofs.lemmas.Int.{ints}
use Rattle.calendar_gregorian.specs.Gregorian.{lengths, sum}
use Rattle.calendar_gregorian.specs.Civil.{lengths_in, month_of, days_before}

-- the table's rows, for common years and for leap years
abbrev pub rows : List (List ℤ)
rows = map pos (lengths 0) ∷ map pos (lengths 1) ∷ []

-- the row of a year has the lengths of its months
row_is : (in_leap : Bool) {r : ℕ} → r ≡ bool_byte in_leap → get_or rows r [] ≡ map pos (lengths_in in_leap)
row_is true e = rw e
row_is false e = rw e

pub row_length : (in_leap : Bool) {r : ℕ} → r ≡ bool_byte in_leap → length (get_or rows r []) ≡ 12
row_length true e = rw e
row_length false e = rw e

-- the sum of one number more
pub sum-suc : (xs : List ℕ) (i : ℕ) → i < length xs → sum (take (suc i) xs) ≡ sum (take i xs) + get_or xs i 0
sum-suc [] i h = absurd (omega arith)
sum-suc (x ∷ xs) zero h = omega arith
sum-suc (x ∷ xs) (suc i) h = omega (arith, sum-suc xs i (omega arith))

-- the sum of the first is at most that of all
pub sum-take-le : (k : ℕ) (xs : List ℕ) → sum (take k xs) ≤ sum xs
sum-take-le zero xs = omega arith
sum-take-le (suc k) [] = omega arith
sum-take-le (suc k) (x ∷ xs) = omega (arith, sum-take-le k xs)

-- the first months have at most 366 days
first_le : (in_leap : Bool) (k : ℕ) → sum (take k (lengths_in in_leap)) ≤ 366
first_le true k = sum-take-le k (lengths 1)
first_le false k = omega (arith, sum-take-le k (lengths 0))

-- the days z of the first i months, and the length x of the next, which the code reads from the row r
pub next_month : (in_leap : Bool) {r : ℕ} → r ≡ bool_byte in_leap → (i : ℕ) → i < 12 → {z x : ℤ} → z ≡ pos (sum (take i (lengths_in in_leap)))
    → x ≡ get_or (get_or rows r []) i (pos 0)
    → to_z w32 (of_z w32 (z +ℤ to_z w32 (of_z w32 x))) ≡ pos (sum (take (i + 1) (lengths_in in_leap)))
next_month in_leap d i h {z} {x} e f =
    let more : sum (take (i + 1) (lengths_in in_leap)) ≡ sum (take i (lengths_in in_leap)) + get_or (lengths_in in_leap) i 0 =
    rw add-one (sum-suc (lengths_in in_leap) i (omega arith)) in
    let length_is : x ≡ pos (get_or (lengths_in in_leap) i 0) = rw (f, row_is in_leap d) (get_or-map pos (lengths_in in_leap) i 0) in
    rw (e, length_is) (omega (arith, ints, first_le in_leap (i + 1)))

-- twelve months are all
clip : (in_leap : Bool) (k : ℕ) → take (min k 12) (lengths_in in_leap) ≡ take k (lengths_in in_leap)
clip in_leap k = split (leb k 12) refl
  where
    split : (t : Bool) → leb k 12 ≡ t → take (min k 12) (lengths_in in_leap) ≡ take k (lengths_in in_leap)
    split true e = let least : min k 12 ≡ k = omega (arith, leb-true k 12 e) in rw least
    split false e =
        let above : 12 < k = leb-false k 12 e in
        let least : min k 12 ≡ 12 = omega arith in
        rw (least, take_all k (lengths_in in_leap) (omega arith))

-- the days before a month, from those of the months before it
pub days_passed : (in_leap : Bool) (z : ℤ) {i : ℕ} → i ≡ min (month_of z - 1) 12 → sum (take i (lengths_in in_leap)) ≡ days_before in_leap z
unfolding days_before
days_passed in_leap z e = ap (λ (k : ℕ). sum (take k (lengths_in in_leap))) e ∙ ap sum (clip in_leap (month_of z - 1))
