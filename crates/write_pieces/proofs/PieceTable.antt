-- The table of pieces has each pattern's piece. Assumes nothing.
-- `none_past`: a number past the table has no piece.
-- `letter_at`: the entry of a pattern is the letter of its piece, and past the table that of none.
-- `piece_in`: what the code's table has at a place is the pattern's piece, and past the table there is none.
use mathlib.Core.Path.{◌≡◌, ◌∙◌, refl, sym, ap}
use mathlib.Core.Bool.{Bool, true, false}
use mathlib.Core.List.{List, map}
use Prim.Native.Nat.{ℕ, ◌<◌, ◌≤◌}
use native.Mathlib.Omega.{arith}
use borrow.Author.Tests.{eqb-true, ltb-true, ltb-false}
use lib.Dec.{eqb, ltb}
use lib.ListN.{get_or, get_or-eq_default, get_or-map}
use Rattle.std.specs.Prelude.{Option, None}
use Rattle.base_notation.proofs.Table.{entry}
use Rattle.template_patterns.specs.Patterns.{Pattern, patterns, pattern_of}
use Rattle.write_pieces.specs.Pieces.{found_number, none, piece_named, piece_of, rows}
use Rattle.write_pieces.specs.Tables.{letter_of, piece_table, worked as sizes}
use Rattle.write_pieces.specs.declared.Piece.{Piece}

-- a number past the table
pub none_past : (k : ℕ) → 112 ≤ k → piece_of k ≡ none
unfolding piece_of
none_past k h = ap (λ (p : Pattern). piece_named p.name rows) (get_or-eq_default patterns (pattern_of 112) h)

-- an entry is the letter of its pattern's piece
abbrev right : ℕ → ℕ → Bool
right k x = eqb x (letter_of (piece_of k))

-- one computed test of the table says it of each entry
tested : (k : ℕ) → k < 112 → get_or piece_table k (letter_of none) ≡ letter_of (piece_of k)
unfolding piece_table piece_of
tested k h = eqb-true _ _ (entry right (letter_of none) piece_table refl k h)

pub letter_at : (k : ℕ) → get_or piece_table k (letter_of none) ≡ letter_of (piece_of k)
letter_at k = split (ltb k 112) refl
  where
    split : (b : Bool) → ltb k 112 ≡ b → get_or piece_table k (letter_of none) ≡ letter_of (piece_of k)
    split true e = tested k (ltb-true k 112 e)
    split false e = let past = ltb-false k 112 e in get_or-eq_default piece_table (letter_of none) (rw sizes.0 past) ∙ rw (none_past k past)

pub piece_in : (table : List (Option Piece)) (k : ℕ) (piece : Option Piece) → map (λ x. letter_of (found_number x)) table ≡ piece_table
    → piece ≡ get_or table k None → found_number piece ≡ piece_of k
piece_in table k piece e is =
    let letters : letter_of (found_number (get_or table k None)) ≡ letter_of (piece_of k) =
    sym (get_or-map (λ x. letter_of (found_number x)) table k None) ∙ ap (λ (l : List ℕ). get_or l k (letter_of none)) e ∙ letter_at k in
    ap found_number is ∙ omega (arith, letters)
