-- The high bits of bytes, as one number. Assumes nothing.
-- `eight_high`: the mask 0x80 on each of eight bytes leaves their high bits.
-- `last_high`: a shift of the last eight bytes leaves the high bits from a place on.
-- `word_passed`: the bytes below the lowest high bit of eight are ASCII, so they are passed.
-- `onward`: what is passed in two steps is passed.
use mathlib.Core.Path.{◌≡◌, ◌∙◌, refl, sym, ap}
use mathlib.Core.Bool.{Bool, true, false}
use mathlib.Core.List.{List, [], ◌∷◌}
use Prim.Native.Nat.{ℕ, zero, suc, ◌+◌, ◌-◌, ◌*◌, ◌/◌, ◌%◌, ◌^◌, ◌≤◌, ◌<◌}
use native.Mathlib.Nat.{le_of_suc-le-suc, not-suc-le-zero, mul-one, mul-suc, div-one, zero-div, add-zero, add-suc, add_comm}
use native.Mathlib.Omega.{arith}
use borrow.Author.Tests.{ltb-true, ltb-false}
use lib.Bits.{bit_and, and_block, and_high, shifted_half, shifted_even}
use lib.Count.{count_trailing_zeros}
use lib.Dec.{ltb, lit<}
use lib.Pow.{shr-shr}
use mir.Syntax.{w64}
use Rattle.std.specs.Int.{from_le_bytes}
use lib.ListN.{length, get_or, take, drop, length-drop}
use lib.Seq.{drop-nil, drop-drop, take_all}
use Rattle.base_notation.specs.Choice.{when◌then◌else◌}
use Rattle.base_chars.specs.Range.{◌‥◌}
use Rattle.base_chars.specs.Utf8.{well_formed, high_bits, Passed}
use Rattle.base_chars.proofs.Sequences.{ascii}
use Rattle.base_chars.proofs.Ranges.{inside}
use Rattle.base_chars.proofs.WellFormed.{past_sequence_at}

-- f 0 to f (n - 1)
abbrev listed : ℕ → (ℕ → ℕ) → List ℕ
listed zero f = []
listed (suc n) f = f 0 ∷ listed n (λ k. f (suc k))

-- the first bytes of a list, each by its place
taken : (n : ℕ) (s : List ℕ) → n ≤ length s → take n s ≡ listed n (λ k. get_or s k 0)
taken zero s h = refl
taken (suc n) [] h = absurd (not-suc-le-zero h)
taken (suc n) (b ∷ s) h = ap (λ (t : List ℕ). b ∷ t) (taken n s (le_of_suc-le-suc h))

-- bytes as one number, the first the lowest
abbrev number : ℕ → (ℕ → ℕ) → ℕ
number zero f = 0
number (suc n) f = number n (λ k. f (suc k)) * 256 + f 0

-- the high bit of one byte
high_bit : (b : ℕ) → b < 256 → bit_and b 0x80 ≡ (when ltb b 0x80 then 0 else 0x80)
high_bit b h = and_high b 1 7 ∙ split (ltb b 0x80) refl
  where
    split : (t : Bool) → ltb b 0x80 ≡ t → (b / 2 ^ 7 % 2 ^ 1) * 2 ^ 7 ≡ (when t then 0 else 0x80)
    split true e = omega (arith, ltb-true b 0x80 e)
    split false e = omega (arith, ltb-false b 0x80 e)

-- the mask on every byte leaves the high bits
masked : (n : ℕ) (f : ℕ → ℕ) → ((k : ℕ) → f k < 256) → bit_and (number n f) (number n (λ k. 0x80)) ≡ high_bits (listed n f)
unfolding high_bits
masked zero f small = refl
masked (suc n) f small =
    let rest = number n (λ k. f (suc k)) in
    let mask = number n (λ k. 0x80) in
    and_block 8 rest mask (f 0) 0x80 (small 0) (lit< tt)
    ∙ rw (masked n (λ k. f (suc k)) (λ k. small (suc k)), high_bit (f 0) (small 0))

pub eight_high
    : (bs : List ℕ) → length bs ≡ 8 → ((k : ℕ) → get_or bs k 0 < 256)
    → bit_and (from_le_bytes w64 bs) 0x8080808080808080 ≡ high_bits bs
eight_high bs long small =
    let bytes : ℕ → ℕ = λ k. get_or bs k 0 in
    let sum : from_le_bytes w64 bs ≡ number 8 bytes = omega arith in
    let all : bs ≡ listed 8 bytes = sym (take_all 8 bs (omega arith)) ∙ taken 8 bs (omega arith) in
    rw sum (masked 8 bytes small ∙ ap high_bits (sym all))

-- k zeros below a number
zeros_below : (k j x : ℕ) → count_trailing_zeros (j + k) (x * 2 ^ k) ≡ count_trailing_zeros j x + k
unfolding count_trailing_zeros
zeros_below zero j x = rw (add-zero j, mul-one, add-zero)
zeros_below (suc k) j x = rw (add-suc j k, shifted_even x k, shifted_half x k) (omega (arith, zeros_below k j x))

-- none below an odd one
no_zeros : (j x : ℕ) → count_trailing_zeros (suc j) (x * 2 + 1) ≡ 0
unfolding count_trailing_zeros
no_zeros j x = let odd : (x * 2 + 1) % 2 ≡ 1 = omega arith in rw odd

-- a first byte that is ASCII, and one that is not
zeros_ascii : (j x : ℕ) → count_trailing_zeros (j + 8) (x * 256 + 0) / 8 ≡ suc (count_trailing_zeros j x / 8)
zeros_ascii j x = rw (add-zero (x * 256), zeros_below 8 j x) (omega arith)

zeros_other : (j x : ℕ) → count_trailing_zeros (j + 8) (x * 256 + 0x80) / 8 ≡ 0
zeros_other j x =
    let same : x * 256 + 0x80 ≡ (x * 2 + 1) * 2 ^ 7 = omega arith in
    let count : j + 8 ≡ suc j + 7 = omega arith in
    rw (same, count, zeros_below 7 (suc j) (x * 2 + 1), no_zeros j x)

-- the bytes below the lowest high bit are ASCII: what follows is well-formed exactly when the whole is
high_run : (n : ℕ) (s : List ℕ) → well_formed (drop (count_trailing_zeros (8 * n) (high_bits (take n s)) / 8) s) ≡ well_formed s
unfolding high_bits count_trailing_zeros
high_run zero s = refl
high_run (suc n) [] = rw drop-nil
high_run (suc n) (b ∷ s) = rw (mul-suc 8 n) (split (high_run n s) (ltb b 0x80) refl)
  where
    rest : ℕ
    rest = high_bits (take n s)

    split : well_formed (drop (count_trailing_zeros (8 * n) rest / 8) s) ≡ well_formed s → (t : Bool) → ltb b 0x80 ≡ t
        → well_formed (drop (count_trailing_zeros (8 * n + 8) (rest * 256 + (when t then 0 else 0x80)) / 8) (b ∷ s)) ≡ well_formed (b ∷ s)
    split after true e =
        let small = inside (0x00 ‥ 0x7f) b (omega arith) (omega (arith, ltb-true b 0x80 e)) in
        rw (zeros_ascii (8 * n) rest) (after ∙ past_sequence_at (b ∷ s) 0 1 (sym (ascii b s small)))
    split after false e = rw (zeros_other (8 * n) rest)

-- one byte shifted out
shifted : (b x : ℕ) → (x * 256 + (when ltb b 0x80 then 0 else 0x80)) / 2 ^ 8 ≡ x
shifted b x = by_cases (ltb b 0x80)
  where
    by_cases : (t : Bool) → (x * 256 + (when t then 0 else 0x80)) / 2 ^ 8 ≡ x
    by_cases true = omega arith
    by_cases false = omega arith

-- and several
high_drop : (k : ℕ) (s : List ℕ) → high_bits s / 2 ^ (8 * k) ≡ high_bits (drop k s)
unfolding high_bits
high_drop zero s = rw div-one
high_drop (suc k) [] = zero-div (2 ^ (8 * suc k))
high_drop (suc k) (b ∷ s) = rw (mul-suc 8 k, add_comm (8 * k) 8, ← shr-shr, shifted b (high_bits s)) (high_drop k s)

pub last_high
    : (s : List ℕ) (at : ℕ) → 8 ≤ length s → at ≤ length s → length s < at + 8
    → high_bits (take 8 (drop (length s - 8) s)) / 2 ^ (64 - 8 * (length s - at)) ≡ high_bits (take 8 (drop at s))
last_high s at long within near =
    let k = at + 8 - length s in
    let bits : 64 - 8 * (length s - at) ≡ 8 * k = omega arith in
    let place : length s - 8 + k ≡ at = omega arith in
    let last : take 8 (drop (length s - 8) s) ≡ drop (length s - 8) s = take_all 8 _ (omega (arith, length-drop (length s - 8) s)) in
    let rest : take 8 (drop at s) ≡ drop at s = take_all 8 _ (omega (arith, length-drop at s)) in
    rw (last, rest, bits) (high_drop k (drop (length s - 8) s) ∙ rw (drop-drop k (length s - 8) s, place))

pub word_passed : (s : List ℕ) (at w n : ℕ) → w ≡ high_bits (take 8 (drop at s)) → n ≡ count_trailing_zeros 64 w / 8 → Passed s at (at + n)
word_passed s at w n is count = record { forward = omega arith; same = rw (← drop-drop n at s, count, is) (high_run 8 (drop at s)) }

pub onward : {s : List ℕ} {a b c : ℕ} → Passed s a b → Passed s b c → Passed s a c
onward p q = record { forward = omega (arith, p.forward, q.forward); same = q.same ∙ p.same }
