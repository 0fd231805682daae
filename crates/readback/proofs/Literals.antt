-- Reading a literal. A reader may be ahead by spaces and separators, which it skipped and which still pay for literals:
-- past the literal it is ahead so again. Assumes nothing.
-- `Left`: what is left of the input from a place on; `left_length`, `left_byte`: its length and bytes; `left_past`:
-- what is left after a first part of it.
-- `literal_step`: a reader that is ahead at what is read as a literal is ahead after it (`Passed`). In the accents mode
-- no mark may follow the literal.
use mathlib.Core.Path.{◌≡◌, ◌∙◌, refl, ap}
use mathlib.Core.Bool.{Bool, true, false, ◌&&◌, ◌||◌, false≢true}
use mathlib.Core.List.{List, [], ◌∷◌, ◌++◌}
use Prim.Native.Nat.{ℕ, zero, suc, ◌+◌, ◌≤◌, ◌<◌}
use native.Mathlib.Nat.{add-zero}
use native.Mathlib.Omega.{arith}
use borrow.Author.Tests.{lt-ltb, ltb-true, ltb-false}
use lib.Dec.{eqb, ltb}
use lib.ListN.{length, drop, length-append, length-drop}
use lib.Seq.{drop-drop, drop-append_seam, get_or-drop}
use Rattle.base_notation.specs.Text.{byte_at}
use Rattle.base_notation.proofs.Cases.{both}
use Rattle.base_accents.specs.Accents.{mark_at, measure_of}
use Rattle.base_accents.proofs.Measures.{measure_left}
use Rattle.base_chars.specs.Class.{Class, class_of, digit, is_letter, letter, other, separator as separator_class, space as space_class}
use Rattle.base_chars.proofs.Classes.{wide_class}
use Rattle.read_literals.specs.Literals.{place, literal_passed}
use Rattle.template_nodes.specs.Template.{separator, space}
use Rattle.template_nodes.specs.declared.Node.{Node}
use Rattle.readback.proofs.Ahead.{Ahead, ahead_more}
use Rattle.readback.proofs.Nodes.{is_blank, Alike, Literal, one_byte}

-- u is left of the input s from at on
pub record Left (s : List ℕ) (at : ℕ) (u : List ℕ) : Type 0 where
  pub within : at ≤ length s
  pub is : drop at s ≡ u

module _ {s : List ℕ} {at : ℕ} {u : List ℕ} (h : Left s at u) where
  pub left_length : length s ≡ at + length u
  left_length = omega (arith, length-drop at s, ap (λ (v : List ℕ). length v) h.is, h.within)

  pub left_byte : (i : ℕ) → byte_at s (at + i) ≡ byte_at u i
  left_byte i = rw (← get_or-drop at s i 0, h.is)

pub left_past : {s : List ℕ} {at : ℕ} (u v : List ℕ) → Left s at (u ++ v) → Left s (at + length u) v
left_past {s} {at} u v h =
    record {
      within = omega (arith, left_length h, length-append u v);
      is = rw (← drop-drop (length u) at s, h.is) (drop-append_seam u v);
    }

-- a space or separator is ASCII, and no letter
blank_plain : (b : ℕ) → is_blank b ≡ true → (b < 0x80) × (is_letter b ≡ false)
blank_plain b e =
    let small : b < 0x80 =
    (elim (ltb b 0x80) as (λ w. ltb b 0x80 ≡ w → b < 0x80) [
      | true ↦ λ w. ltb-true b 0x80 w
      | false ↦ λ w. absurd (false≢true (rw (wide_class b (ltb-false b 0x80 w)) at e))
    ]) refl in
    (small, by (class_of b) refl)
  where
    by : (c : Class) → class_of b ≡ c → is_letter b ≡ false
    by letter q = absurd (false≢true (rw q at e))
    by space_class q = rw q
    by digit q = rw q
    by separator_class q = rw q
    by other q = rw q

-- the reader past the literal n, after which v is left: by how much it is ahead there
pub record Passed (s : List ℕ) (n : Node) (at e : ℕ) (v : List ℕ) : Type 0 where
  pub next : ℕ
  pub is : literal_passed s n (place (at + e) e false) ≡ place (at + n.len + next) next false
  pub ahead : Ahead next v

moved : (e : ℕ) {a b : ℕ} → a ≡ b → place a e false ≡ place b e false
moved e q = ap (λ (a : ℕ). place a e false) q

none : (u v : List ℕ) → length u ≡ 0 → u ++ v ≡ v
none [] v e = refl
none (b ∷ u) v e = absurd (omega arith)

module _ (s t : List ℕ) (n : Node) (l : Literal t n) {x : List ℕ} (a : Alike t n x) (v : List ℕ) (clear : n.accents ≡ true → mark_at v 0 ≡ false) (at : ℕ)
    (h : Left s at (a.b ∷ a.others ++ v)) where
  abbrev blank_kind : Bool
  blank_kind = eqb n.kind separator || eqb n.kind space

  own_length : measure_of n.accents s (at + 0) ≡ n.len
  own_length =
      let text : drop at s ≡ x ++ v = h.is ∙ rw a.is in
      rw (add-zero at, ← measure_left s at n.accents, text) (a.long v clear)

  blank_one : is_blank a.b ≡ true → n.len ≡ 1
  blank_one e = one_byte a (blank_plain a.b e).0 (blank_plain a.b e).1

  -- a space or separator is read at one of the template
  blank_here : blank_kind ≡ true → is_blank a.b ≡ true
  blank_here q = rw a.class (l.blank q)

  -- a reader that is not ahead: the literal takes its own bytes
  in_place : Passed s n at 0 v
  unfolding literal_passed
  in_place = record { next = 0; is = by blank_kind refl; ahead = tt }
    where
      inside : at + 0 < length s
      inside = omega (arith, left_length h)

      by : (w : Bool) → blank_kind ≡ w → literal_passed s n (place (at + 0) 0 false) ≡ place (at + n.len + 0) 0 false
      by true q =
          rw (q, lt-ltb (at + 0) (length s) inside, left_byte h 0, blank_here q)
          (moved 0 (omega (arith, blank_one (blank_here q))))
      by false q = rw q (moved 0 (omega (arith, own_length)))

  module _ (e : ℕ) (k : Ahead (suc e) (a.b ∷ a.others ++ v)) where
    one : n.len ≡ 1
    one = blank_one k.0

    rest : a.others ++ v ≡ v
    rest = none a.others v (omega (arith, a.size, one))

    -- a byte that was skipped pays for the literal, which has one byte
    paid : literal_passed s n (place (at + suc e) (suc e) false) ≡ place (at + suc e) e false → Passed s n at (suc e) v
    paid q = record { next = e; is = q ∙ moved e (omega (arith, one)); ahead = rw rest at k.1 }

    -- a space or separator of the template takes one more of them, if there is one
    blank : blank_kind ≡ true → Passed s n at (suc e) v
    unfolding literal_passed
    blank q =
        (elim (ltb (at + suc e) (length s) && is_blank (byte_at s (at + suc e))) as (λ w. (ltb (at + suc e) (length s) && is_blank (byte_at s (at + suc e))) ≡ w → Passed s n at (suc e) v) [
          | true ↦ λ w.
              let next_blank = both (ltb (at + suc e) (length s)) _ w in
              let inside : suc e < length (a.b ∷ a.others ++ v) = omega (arith, ltb-true (at + suc e) (length s) next_blank.0, left_length h) in
              let more = ahead_more (suc e) (a.b ∷ a.others ++ v) k inside (rw (left_byte h (suc e)) at next_blank.1) in
              record { next = suc e; is = rw (q, w) (moved (suc e) (omega (arith, one))); ahead = rw rest at more.1 }
          | false ↦ λ w. paid (rw (q, w))
        ]) refl

    ahead_step : Passed s n at (suc e) v
    unfolding literal_passed
    ahead_step =
        (elim blank_kind as (λ w. blank_kind ≡ w → Passed s n at (suc e) v) [
          | true ↦ λ q. blank q
          | false ↦ λ q. paid (rw (q, lt-ltb 0 (suc e) (omega arith)))
        ]) refl

  pub literal_step : (e : ℕ) → Ahead e (a.b ∷ a.others ++ v) → Passed s n at e v
  literal_step zero k = in_place
  literal_step (suc e) k = ahead_step e k
