-- The word in a row of a table, compared with bytes one after another. Assumes nothing.
-- `some_there`, `none_there`, `length_some`, `length_none`: a length that is 0 or more, and one that may be none.
-- `word_of_row`: nine bytes of a table hold the word of their row.
-- `onward`: the answer, when j bytes are the same: it follows from what is left of the word.
-- `begun`: when the first byte is the same, and no space, it is the definition's.
-- `other_first`, `other_row`: where the first byte is another, the definition's answer is 0.
-- `at_space`, `other_byte`, `same_byte`: at a space it is j, at another byte 0, and past the same byte that for j + 1.
-- `all_same`: when all bytes are the same it is the row's length.
use Rattle.std.specs.Prelude.{None, Some}
use mathlib.Core.Path.{◌≡◌, ◌∙◌, refl, sym}
use mathlib.Core.Bool.{Bool, true, false}
use mathlib.Core.List.{List, [], ◌∷◌}
use Prim.Native.Nat.{ℕ, suc, ◌+◌, ◌*◌, ◌<◌, ◌≤◌}
use Prim.Native.Char.{code}
use native.Mathlib.Nat.{add-zero, zero-add}
use native.Mathlib.Numerals.{add-one}
use native.Mathlib.Omega.{arith}
use borrow.Author.Tests.{eq-eqb, eqb-true, eqb-false, lt-ltb, ltb-true, ltb-false, ne_eqb}
use lib.Dec.{eqb, ltb}
use lib.ListN.{length, take, drop, drop_of_length-le, length-take, length-drop}
use lib.Seq.{drop-cons}
use Rattle.base_notation.specs.Choice.{when◌then◌else◌}
use Rattle.base_notation.specs.Text.{byte_at}
use Rattle.template_patterns.specs.Search.{matches_at, length_at}
use Rattle.read_words.specs.FoldOnce.{length_there, until_space, row_of}

-- a length that is not 0, if the bytes begin with the word
module _ (w t : List ℕ) where
  pub some_there : (n : ℕ) → 0 < n → n ≡ length_at w t 0 → Some n ≡ length_there w t
  some_there n h e = rw (← e, lt-ltb 0 n h)

  pub none_there : 0 ≡ length_at w t 0 → None ≡ length_there w t
  none_there e = rw (← e)

  pub length_some : (n : ℕ) → Some n ≡ length_there w t → (0 < n) × (n ≡ length_at w t 0)
  length_some n = split (ltb 0 (length_at w t 0)) refl
    where
      split : (b : Bool) → ltb 0 (length_at w t 0) ≡ b → Some n ≡ (when b then Some (length_at w t 0) else None) → (0 < n) × (n ≡ length_at w t 0)
      split true e q = let same : n ≡ length_at w t 0 = cc in (omega (arith, same, ltb-true 0 (length_at w t 0) e), same)
      split false e q = cc

  pub length_none : None ≡ length_there w t → 0 ≡ length_at w t 0
  length_none = split (ltb 0 (length_at w t 0)) refl
    where
      split : (b : Bool) → ltb 0 (length_at w t 0) ≡ b → None ≡ (when b then Some (length_at w t 0) else None) → 0 ≡ length_at w t 0
      split true e q = cc
      split false e q = omega (arith, ltb-false 0 (length_at w t 0) e)

-- the word of row k, as the code takes the row from a table
pub word_of_row : (table : List ℕ) (k n : ℕ) → n ≡ 9 → until_space (take n (drop (9 * k) table)) ≡ row_of table k
unfolding row_of
word_of_row table k n e = rw e

-- what is left of the word in a row after j bytes
module _ (row : List ℕ) where
  abbrev pub rest : ℕ → List ℕ
  rest j = until_space (drop j row)

  module _ (t : List ℕ) where
    -- the answer, when j bytes are the same
    abbrev pub onward : ℕ → ℕ
    onward j = when matches_at (rest j) t j then j + length (rest j) else 0

    module _ (j : ℕ) (l : j < length row) where
      -- the byte of the row
      abbrev c : ℕ
      c = byte_at row j

      rest_on : rest j ≡ (when eqb c (code " ") then [] else c ∷ rest (j + 1))
      rest_on = rw (drop-cons row j 0 l, add-one j)

      pub at_space : c ≡ code " " → j ≡ onward j
      at_space e = rw (rest_on, eq-eqb _ _ e) (omega arith)

      pub other_byte : (c ≡ code " " → ⊥) → (byte_at t j ≡ c → ⊥) → 0 ≡ onward j
      other_byte n o = rw (rest_on, ne_eqb _ _ n, ne_eqb _ _ o)

      pub same_byte : (c ≡ code " " → ⊥) → byte_at t j ≡ c → onward j ≡ onward (j + 1)
      same_byte n o =
          let next_length : j + suc (length (rest (j + 1))) ≡ j + 1 + length (rest (j + 1)) = omega arith in
          rw (rest_on, ne_eqb _ _ n, eq-eqb _ _ o, next_length)

    -- when all bytes are the same it is the row's length
    pub all_same : (n : ℕ) → length row ≡ n → onward n ≡ n
    all_same n e = rw (drop_of_length-le row {i = n} (omega arith), add-zero)

    module _ (l : 0 < length row) where
      -- before any byte it is the definition's answer
      from_first : length_at (until_space row) t 0 ≡ onward 0
      from_first = rw zero-add

      pub begun : byte_at row 0 ≡ byte_at t 0 → (byte_at t 0 ≡ code " " → ⊥) → length_at (until_space row) t 0 ≡ onward 1
      begun e n = from_first ∙ same_byte 0 l (λ q. n (sym e ∙ q)) (sym e)

      pub other_first : (byte_at row 0 ≡ byte_at t 0 → ⊥) → 0 ≡ length_at (until_space row) t 0
      other_first o = split (eqb (byte_at row 0) (code " ")) refl ∙ sym from_first
        where
          split : (b : Bool) → eqb (byte_at row 0) (code " ") ≡ b → 0 ≡ onward 0
          split true e = at_space 0 l (eqb-true _ _ e)
          split false e = other_byte 0 l (eqb-false _ _ e) (λ q. o (sym q))

-- the same of row k of a table
pub other_row
    : (table t : List ℕ) (k n : ℕ) → n ≡ 9 → 9 * k + 9 ≤ length table → (byte_at (take n (drop (9 * k) table)) 0 ≡ byte_at t 0 → ⊥)
    → 0 ≡ length_at (row_of table k) t 0
other_row table t k n e h o =
    let row = take n (drop (9 * k) table) in
    let some : 0 < length row = omega (arith, length-take n (drop (9 * k) table), length-drop (9 * k) table) in
    rw (word_of_row table k n e) at (other_first row t some o)
