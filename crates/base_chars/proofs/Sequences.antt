-- Laws of the sequence that a list begins with. Assumes nothing.
-- `ascii`: a byte of ASCII is a sequence of 1 byte.
-- `sequence-lead`: a sequence is as long as its first byte says.
-- `sequence_within`: a sequence is within its list.
-- `sequence-append`, `sequence-take`: it stays the same where bytes after it are added or cut off.
-- `begins_on`: a row of ranges at a place is its first range there and the others from the next place on.
-- `at_row`, `row_found`: the sequence at a place, by the row of the table that has its first byte.
-- `at_low`, `at_high`: no sequence begins with a byte from 0x80 to 0xc1, or from 0xf5 on.
use mathlib.Core.Path.{◌≡◌, ◌∙◌, refl, sym}
use mathlib.Core.Bool.{Bool, true, false, not, ◌&&◌, ◌||◌, and-true, false≢true}
use mathlib.Core.List.{List, [], ◌∷◌, ◌++◌}
use Prim.Native.Nat.{ℕ, zero, suc, ◌+◌, ◌≤◌, ◌<◌}
use native.Mathlib.Omega.{arith}
use native.Mathlib.Numerals.{add-one}
use lib.ListN.{length, get_or, take, drop, replicate, drop_of_length-le}
use lib.Seq.{drop-cons}
use Rattle.std.specs.Prelude.{Option, Some, None, MatchOption}
use lib.Dec.{ltb, eqb, lit<}
use borrow.Author.Tests.{ltb-true, ltb-false, eqb-true}
use Rattle.base_notation.specs.Choice.{when◌then◌else◌}
use Rattle.base_notation.specs.Text.{byte_at}
use Rattle.base_notation.proofs.Cases.{both, by_if}
use Rattle.base_notation.proofs.Table.{all_from, entry}
use Rattle.base_chars.specs.Range.{Range, ◌‥◌, ◌∈◌}
use Rattle.base_chars.specs.Character.{lead}
use Rattle.base_chars.specs.Utf8.{table, begins, first_row, sequence}
use Rattle.base_chars.proofs.Ranges.{inside, above, bounds}
use Rattle.base_chars.proofs.Rows.{first, others, Fits, none, decides, over, found}

module _ (b : ℕ) (s : List ℕ) where
  -- the row of the first byte decides
  by_row
      : (k : ℕ) → k < 9 → b ∈ first (get_or table k []) ≡ true
      → sequence (b ∷ s) ≡ (when begins (others (get_or table k [])) s then length (get_or table k []) else 0)
  unfolding sequence
  by_row k h q = decides b s 0 table k refl h q

  -- the bytes that begin nothing: a continuation or the head of an overlong form, and those above every head
  no_row_low : 0x80 ≤ b → b < 0xc2 → sequence (b ∷ s) ≡ 0
  unfolding sequence
  no_row_low l h = rw (above (0x00 ‥ 0x7f) b l) (none 0xc2 (drop 1 table) b s refl h)

  no_row_high : 0xf5 ≤ b → sequence (b ∷ s) ≡ 0
  unfolding sequence
  no_row_high h = over b s 0xf5 table refl h

  pub ascii : b ∈ 0x00 ‥ 0x7f ≡ true → sequence (b ∷ s) ≡ 1
  ascii q = by_row 0 (lit< tt) q

  -- the row of a sequence that was found
  fits : (n : ℕ) → sequence (b ∷ s) ≡ suc n → Fits b s table (suc n)
  unfolding sequence
  fits n e = found b s 0 table n refl e

-- a first byte of a row says how long the row is
abbrev says : List Range → ℕ → Bool
says row b = not (b ∈ first row) || eqb (lead b) (length row)

-- each first byte does, and all of them are below 256
abbrev all_say : ℕ → List Range → Bool
all_say k row = ltb (first row).high 256 && all_from (λ b (_ : ℕ). says row b) 0 (replicate 256 0)

-- so it is for each row of the table: the test computes over all rows and bytes
row_lead : (k b : ℕ) → k < 9 → b ∈ first (get_or table k []) ≡ true → lead b ≡ length (get_or table k [])
unfolding lead
row_lead k b h q =
    let row = get_or table k [] in
    let tests = both (ltb (first row).high 256) _ (entry all_say [] table refl k h) in
    let small : b < 256 = omega (arith, ltb-true (first row).high 256 tests.0, bounds (first row) b q) in
    eqb-true _ _ (rw q at (entry (λ b (_ : ℕ). says row b) 0 (replicate 256 0) tests.1 b small))

pub sequence-lead : (b : ℕ) (s : List ℕ) → 0 < sequence (b ∷ s) → lead b ≡ sequence (b ∷ s)
sequence-lead b s h =
    (elim (sequence (b ∷ s)) as (λ n. sequence (b ∷ s) ≡ n → 0 < n → lead b ≡ n) [
      | zero ↦ λ e z. absurd (omega arith)
      | suc n ↦ λ e z. let row = fits b s n e in row_lead row.k b row.within row.head ∙ row.long
    ]) refl h

-- a row lies within the list that begins with it
begins_within : (row : List Range) (s : List ℕ) → begins row s ≡ true → length row ≤ length s
begins_within [] s e = omega arith
begins_within (r ∷ rs) [] e = absurd (false≢true e)
begins_within (r ∷ rs) (b ∷ s) e = omega (arith, begins_within rs s (both (b ∈ r) _ e).1)

rows_within : (rows : List (List Range)) (s : List ℕ) → first_row rows s ≤ length s
rows_within [] s = omega arith
rows_within (row ∷ rows) s =
    by_if (λ (n : ℕ). n ≤ length s) (begins row s) (length row) (first_row rows s) (begins_within row s) (λ e. rows_within rows s)

pub sequence_within : (s : List ℕ) → sequence s ≤ length s
unfolding sequence
sequence_within s = rows_within table s

-- a list that begins with a row does so also with more bytes after it
begins-append : (row : List Range) (s t : List ℕ) → begins row s ≡ true → begins row (s ++ t) ≡ true
begins-append [] s t e = refl
begins-append (r ∷ rs) [] t e = absurd (false≢true e)
begins-append (r ∷ rs) (b ∷ s) t e =
    let tests = both (b ∈ r) _ e in
    rw tests.0 (begins-append rs s t tests.1)

pub sequence-append : (b : ℕ) (s t : List ℕ) (n : ℕ) → sequence (b ∷ s) ≡ suc n → sequence (b ∷ s ++ t) ≡ suc n
sequence-append b s t n e =
    let row = fits b s n e in
    by_row b (s ++ t) row.k row.within row.head
    ∙ rw (begins-append (others (get_or table row.k [])) s t row.tail) row.long

-- so it does where all bytes after it are cut off
begins-take : (row : List Range) (s : List ℕ) → begins row s ≡ true → begins row (take (length row) s) ≡ true
begins-take [] s e = refl
begins-take (r ∷ rs) [] e = absurd (false≢true e)
begins-take (r ∷ rs) (b ∷ s) e =
    let tests = both (b ∈ r) _ e in
    rw tests.0 (begins-take rs s tests.1)

others-length : (row : List Range) (n : ℕ) → length row ≡ suc n → length (others row) ≡ n
others-length [] n e = absurd (omega arith)
others-length (r ∷ rs) n e = omega arith

pub sequence-take : (b : ℕ) (s : List ℕ) (n : ℕ) → sequence (b ∷ s) ≡ suc n → sequence (b ∷ take n s) ≡ suc n
sequence-take b s n e =
    let row = fits b s n e in
    let ranges = get_or table row.k [] in
    let begun = begins-take (others ranges) s row.tail in
    let cut : begins (others ranges) (take n s) ≡ true = rw (others-length ranges n row.long) at begun in
    by_row b (take n s) row.k row.within row.head ∙ rw cut row.long

pub begins_on : (r : Range) (rs : List Range) (s : List ℕ) (at : ℕ)
    → begins (r ∷ rs) (drop at s) ≡ (begins (r ∷ []) (drop at s) && begins rs (drop (at + 1) s))
begins_on r rs s at =
    (elim (ltb at (length s)) as (λ t. ltb at (length s) ≡ t → begins (r ∷ rs) (drop at s) ≡ (begins (r ∷ []) (drop at s) && begins rs (drop (at + 1) s))) [
      | true ↦ λ e. rw (add-one, drop-cons s at 0 (ltb-true _ _ e), and-true)
      | false ↦ λ e. rw (drop_of_length-le s (ltb-false _ _ e))
    ]) refl

-- a sequence at a place of a list, by its first byte
module _ (s : List ℕ) (at : ℕ) (h : at < length s) where
  pub at_row
      : (k : ℕ) → k < 9 → (first (get_or table k [])).low ≤ byte_at s at → byte_at s at ≤ (first (get_or table k [])).high
      → (when begins (others (get_or table k [])) (drop (at + 1) s) then length (get_or table k []) else 0) ≡ sequence (drop at s)
  at_row k l from to =
      rw (add-one, drop-cons s at 0 h)
      (sym (by_row (byte_at s at) (drop (suc at) s) k l (inside (first (get_or table k [])) (byte_at s at) from to)))

  -- the same of a length that is `None` where no sequence of the row follows
  pub row_found
      : (k : ℕ) → k < 9 → (first (get_or table k [])).low ≤ byte_at s at → byte_at s at ≤ (first (get_or table k [])).high
      → 0 < length (get_or table k []) → (o : Option ℕ)
      → o ≡ (when begins (others (get_or table k [])) (drop (at + 1) s) then Some (length (get_or table k [])) else None)
      → MatchOption o (sequence (drop at s) ≡ 0) (λ n. (0 < n) × (n ≡ sequence (drop at s)))
  row_found k l from to some o e =
      by_test (begins (others (get_or table k [])) (drop (at + 1) s)) (at_row k l from to) e
    where
      by_test
          : (t : Bool) → (when t then length (get_or table k []) else 0) ≡ sequence (drop at s)
          → o ≡ (when t then Some (length (get_or table k [])) else None)
          → MatchOption o (sequence (drop at s) ≡ 0) (λ n. (0 < n) × (n ≡ sequence (drop at s)))
      by_test true q f = rw f (some, q)
      by_test false q f = rw f (sym q)

  pub at_low : 0x80 ≤ byte_at s at → byte_at s at < 0xc2 → 0 ≡ sequence (drop at s)
  at_low from to = rw (drop-cons s at 0 h) (sym (no_row_low (byte_at s at) (drop (suc at) s) from to))

  pub at_high : 0xf5 ≤ byte_at s at → 0 ≡ sequence (drop at s)
  at_high from = rw (drop-cons s at 0 h) (sym (no_row_high (byte_at s at) (drop (suc at) s) from))
