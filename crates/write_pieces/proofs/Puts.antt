-- Texts put into a buffer one after the other, and digits put from the last on. Assumes nothing.
-- `put_length`: a text that is put leaves the buffer's length. `put_nothing`: to put no text changes nothing.
-- `put_same`: where a text is put, any text that is the same is put.
-- `put_after`: two texts, one put after the other, are put as one.
-- `next_byte`: what is left of a text is put by its next byte and then the rest.
-- `last_digit`, `no_digit`: the digits of a number are put by its last and then those before; of no digits nothing is.
use mathlib.Core.Path.{◌≡◌, ◌∙◌, refl, sym, ap}
use mathlib.Core.List.{List, [], ◌∷◌, ◌++◌}
use Prim.Native.Nat.{ℕ, zero, suc, ◌+◌, ◌-◌, ◌/◌, ◌%◌, ◌<◌, ◌≤◌}
use native.Mathlib.Nat.{add-zero, add-suc, suc-add}
use native.Mathlib.Numerals.{add-one}
use native.Mathlib.Omega.{arith}
use lib.ListN.{length, drop, get_or, set}
use lib.Seq.{sets, set_comm, drop-cons, length-sets}
use Rattle.base_strtol.specs.Decimal.{decimal}
use Rattle.base_strtol.proofs.Decimals.{decimal-length}
use Rattle.write_pieces.specs.Output.{Put}

-- a put text leaves the buffer's length
pub put_length : {before : List ℕ} {at : ℕ} {text after : List ℕ} {r : ℕ} → Put before at text after r → length after ≡ length before
put_length {before} {at} {text} p = ap length p.is ∙ length-sets before at text

pub put_nothing : (l : List ℕ) (at : ℕ) → Put l at [] l at
put_nothing l at = record { is = refl; next = omega arith }

pub put_same : {before : List ℕ} {at : ℕ} {text same after : List ℕ} {r : ℕ} → text ≡ same → Put before at text after r → Put before at same after r
put_same e p = rw e at p

-- a text put after another: the two as one
pub put_after : (l : List ℕ) (at : ℕ) (xs ys : List ℕ) → sets (sets l at xs) (at + length xs) ys ≡ sets l at (xs ++ ys)
put_after l at [] ys = rw add-zero
put_after l at (x ∷ xs) ys = rw (add-suc at (length xs), ← suc-add at (length xs)) (put_after (set l at x) (suc at) xs ys)

-- a byte after the text may be put before it
after_first : (l : List ℕ) (at : ℕ) (xs : List ℕ) (k b : ℕ) → at + length xs ≤ k → set (sets l at xs) k b ≡ sets (set l k b) at xs
after_first l at [] k b h = refl
after_first l at (x ∷ xs) k b h =
    after_first (set l at x) (suc at) xs k b (omega arith) ∙ rw (set_comm l at k x b (λ e. omega arith))

-- the next byte of a text
pub next_byte : (l : List ℕ) (at : ℕ) (text : List ℕ) (i : ℕ) → i < length text
    → sets (set l (at + i) (get_or text i 0)) (at + (i + 1)) (drop (i + 1) text) ≡ sets l (at + i) (drop i text)
next_byte l at text i h = rw (drop-cons text i 0 h, add-one i, add-suc at i)

-- the last of i digits, put before those in front of it
pub last_digit : (l : List ℕ) (at i n : ℕ) → 0 < i → sets (set l (at + (i - 1)) (48 + n % 10)) at (decimal (i - 1) (n / 10)) ≡ sets l at (decimal i n)
unfolding decimal
last_digit l at zero n h = absurd (omega arith)
last_digit l at (suc j) n h =
    let same : suc j - 1 ≡ j = omega arith in
    let front = decimal j (n / 10) in
    let size = decimal-length j (n / 10) in
    rw (same, ← put_after l at front ((48 + n % 10) ∷ []), size)
    (sym (after_first l at front (at + j) (48 + n % 10) (omega arith)))

pub no_digit : (l : List ℕ) (at i n : ℕ) → i ≡ 0 → sets l at (decimal i n) ≡ l
unfolding decimal
no_digit l at i n e = rw e
