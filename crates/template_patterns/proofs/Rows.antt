-- Names laid out in rows: each byte of a row. Assumes nothing.
-- `row_byte`: byte j of row k is byte j of name k, filled with spaces.
-- `in_name`, `past_name`: that is the name's byte, and past the name a space.
use mathlib.Core.Path.{◌≡◌, ◌∙◌}
use mathlib.Core.Bool.{Bool, true}
use mathlib.Core.List.{List, [], ◌∷◌}
use Prim.Native.Nat.{ℕ, zero, suc, ◌+◌, ◌-◌, ◌*◌, ◌≤◌, ◌<◌}
use native.Mathlib.Nat.{le_of_suc-le-suc, not-suc-le-zero, mul-suc}
use native.Mathlib.Omega.{arith}
use borrow.Author.Tests.{leb-true}
use lib.Dec.{leb}
use lib.ListN.{length, get_or, replicate, length-append, length-replicate, get_or-replicate, get_or-append}
use lib.Seq.{get_or-append-add}
use Rattle.base_notation.proofs.Cases.{both}
use Rattle.base_notation.proofs.Table.{all_from}
use Rattle.template_patterns.specs.Rows.{filled, in_rows}

-- each name has at most n bytes
abbrev pub within : ℕ → ℕ → List (List ℕ) → Bool
within n i ws = all_from (λ (k : ℕ) (w : List ℕ). leb (length w) n) i ws

module _ (n : ℕ) (w : List ℕ) where
  -- a row has n bytes
  filled-length : length w ≤ n → length (filled n w) ≡ n
  filled-length h = length-append w _ ∙ rw (length-replicate {A = ℕ} (n - length w) 32) (omega arith)

  -- a row begins with the name
  pub in_name : (j : ℕ) → j < length w → get_or (filled n w) j 0 ≡ get_or w j 0
  in_name j h = get_or-append w _ 0 j h

  -- and ends with spaces
  pub past_name : (j : ℕ) → length w ≤ j → j < n → get_or (filled n w) j 0 ≡ 32
  past_name j h k =
      let same : length w + (j - length w) ≡ j = omega arith in
      rw same at (get_or-append-add w (replicate (n - length w) 32) (j - length w) 0) ∙ get_or-replicate (n - length w) (j - length w) 32 0 (omega arith)

-- byte j of row k
pub row_byte : (n : ℕ) (ws : List (List ℕ)) (i k j : ℕ) → within n i ws ≡ true → k < length ws → j < n → get_or (in_rows n ws) (n * k + j) 0 ≡ get_or (filled n (get_or ws k [])) j 0
row_byte n [] i k j e h l = absurd (not-suc-le-zero h)
row_byte n (w ∷ ws) i zero j e h l =
    let row_length : length (filled n w) ≡ n = filled-length n w (leb-true _ _ (both (leb (length w) n) _ e).0) in
    let same : n * 0 + j ≡ j = omega arith in
    rw same (get_or-append (filled n w) (in_rows n ws) 0 j (rw row_length l))
row_byte n (w ∷ ws) i (suc k) j e h l =
    let row_length : length (filled n w) ≡ n = filled-length n w (leb-true _ _ (both (leb (length w) n) _ e).0) in
    let further : n * suc k + j ≡ n + (n * k + j) = omega (arith, mul-suc n k) in
    let past_row = get_or-append-add (filled n w) (in_rows n ws) (n * k + j) 0 in
    rw further ((rw row_length at past_row) ∙ row_byte n ws (suc i) k j (both (leb (length w) n) _ e).1 (le_of_suc-le-suc h) l)
