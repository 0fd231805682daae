-- Laws of marks. Assumes nothing.
-- `mark_bytes`: the ranges of a mark's two bytes. `mark_there`: both are within the text. `low_no_mark`: below 0xcc none
-- begins.
-- `marks_on`, `marks_stop`: where a mark is, the marks from there on are two bytes more than those after it; where none
-- is, there are none. `no_marks`: where there are none, no mark is.
-- `marks_within`: the marks in front are within the text. `marks_done`: after them no mark follows.
-- `marks_kept`: they are the same where what follows them is replaced by what begins with no mark.
use mathlib.Core.Path.{◌≡◌, refl}
use mathlib.Core.Bool.{Bool, true, false, ◌&&◌}
use mathlib.Core.List.{List, [], ◌∷◌, ◌++◌}
use Prim.Native.Nat.{ℕ, suc, ◌+◌, ◌≤◌, ◌<◌}
use native.Mathlib.Omega.{arith}
use native.Mathlib.Numerals.{add-one}
use borrow.Author.Tests.{eqb-true, ltb-true, ltb-false, ne_eqb}
use lib.Dec.{eqb, ltb}
use lib.ListN.{length, take, drop, drop_of_length-le}
use lib.Seq.{drop-cons}
use Rattle.base_notation.specs.Choice.{when◌then◌else◌}
use Rattle.base_notation.specs.Text.{byte_at}
use Rattle.base_notation.proofs.Bytes.{byte_within}
use Rattle.base_notation.proofs.Cases.{both}
use Rattle.base_chars.specs.Range.{◌‥◌, ◌∈◌}
use Rattle.base_chars.proofs.Ranges.{bounds}
use Rattle.base_accents.specs.Accents.{is_mark, mark_at, marks}

-- the ranges of a mark's bytes
pub record MarkBytes (b c : ℕ) : Type 0 where
  pub first_from : 0xcc ≤ b
  pub first_to : b ≤ 0xcd
  pub second_from : 0x80 ≤ c
  pub second_to : c ≤ 0xbf

pub mark_bytes : (b c : ℕ) → is_mark b c ≡ true → MarkBytes b c
mark_bytes b c = by (eqb b 0xcc) refl
  where
    by : (k : Bool) → eqb b 0xcc ≡ k → (when k then c ∈ 0x80 ‥ 0xbf else eqb b 0xcd && c ∈ 0x80 ‥ 0xaf) ≡ true → MarkBytes b c
    by true k e =
        let first = eqb-true b 0xcc k in
        let second = bounds (0x80 ‥ 0xbf) c e in
        record { first_from = omega arith; first_to = omega arith; second_from = omega arith; second_to = omega arith }
    by false k e =
        let tests = both (eqb b 0xcd) _ e in
        let first = eqb-true b 0xcd tests.0 in
        let second = bounds (0x80 ‥ 0xaf) c tests.1 in
        record { first_from = omega arith; first_to = omega arith; second_from = omega arith; second_to = omega arith }

pub marks_within : (u : List ℕ) → marks u ≤ length u
unfolding marks
marks_within [] = omega arith
marks_within (b ∷ []) = omega arith
marks_within (b ∷ c ∷ u) = by (is_mark b c) (marks_within u)
  where
    by : (k : Bool) → marks u ≤ length u → (when k then suc (suc (marks u)) else 0) ≤ length (b ∷ c ∷ u)
    by true h = omega arith
    by false h = omega arith

pub marks_done : (u : List ℕ) → marks (drop (marks u) u) ≡ 0
unfolding marks
marks_done [] = refl
marks_done (b ∷ []) = refl
marks_done (b ∷ c ∷ u) =
    (elim (is_mark b c) as (λ k. is_mark b c ≡ k → marks (drop (when k then suc (suc (marks u)) else 0) (b ∷ c ∷ u)) ≡ 0) [
      | true ↦ λ k. marks_done u
      | false ↦ λ k. rw k
    ]) refl

pub marks_kept : (u v : List ℕ) → marks v ≡ 0 → marks (take (marks u) u ++ v) ≡ marks u
unfolding marks
marks_kept [] v h = h
marks_kept (b ∷ []) v h = h
marks_kept (b ∷ c ∷ u) v h =
    (elim (is_mark b c) as (λ k. is_mark b c ≡ k → marks (take (when k then suc (suc (marks u)) else 0) (b ∷ c ∷ u) ++ v) ≡ (when k then suc (suc (marks u)) else 0)) [
      | true ↦ λ k. rw (k, marks_kept u v h)
      | false ↦ λ k. h
    ]) refl

module _ (s : List ℕ) (at : ℕ) where
  pub low_no_mark : byte_at s at < 0xcc → mark_at s at ≡ false
  unfolding mark_at
  low_no_mark h = rw (ne_eqb (byte_at s at) 0xcc (omega arith), ne_eqb (byte_at s at) 0xcd (omega arith))

  pub mark_there : mark_at s at ≡ true → at + 1 < length s
  unfolding mark_at
  mark_there e = byte_within s (at + 1) (λ z. omega (arith, (mark_bytes (byte_at s at) (byte_at s (at + 1)) e).second_from, z))

  -- the text from a place on, by its first two bytes
  two_bytes : at + 1 < length s → drop at s ≡ byte_at s at ∷ byte_at s (at + 1) ∷ drop (at + 2) s
  two_bytes h =
      let second : drop (suc at) s ≡ byte_at s (suc at) ∷ drop (suc (suc at)) s = drop-cons s (suc at) 0 (omega arith) in
      let two : at + 2 ≡ suc (suc at) = omega arith in
      rw (drop-cons s at 0 (omega arith), second, two, add-one)

  pub marks_on : mark_at s at ≡ true → marks (drop at s) ≡ suc (suc (marks (drop (at + 2) s)))
  unfolding mark_at marks
  marks_on e = rw (two_bytes (mark_there e), e)

  -- at the end of the text there are none
  pub marks_end : length s ≤ at → marks (drop at s) ≡ 0
  unfolding marks
  marks_end h = rw (drop_of_length-le s h)

  pub marks_stop : mark_at s at ≡ false → marks (drop at s) ≡ 0
  unfolding mark_at marks
  marks_stop e =
      (elim (ltb (at + 1) (length s)) as (λ k. ltb (at + 1) (length s) ≡ k → marks (drop at s) ≡ 0) [
        | true ↦ λ k. rw (two_bytes (ltb-true _ _ k), e)
        | false ↦ λ k. short (ltb-false _ _ k)
      ]) refl
    where
      short : length s ≤ at + 1 → marks (drop at s) ≡ 0
      short h =
          (elim (ltb at (length s)) as (λ k. ltb at (length s) ≡ k → marks (drop at s) ≡ 0) [
            | true ↦ λ k. let end : length s ≤ suc at = omega arith in rw (drop-cons s at 0 (ltb-true _ _ k), drop_of_length-le s end)
            | false ↦ λ k. marks_end (ltb-false _ _ k)
          ]) refl

  pub no_marks : marks (drop at s) ≡ 0 → mark_at s at ≡ false
  no_marks z =
      (elim (mark_at s at) as (λ k. mark_at s at ≡ k → mark_at s at ≡ false) [
        | true ↦ λ k. absurd (omega (arith, marks_on k, z))
        | false ↦ λ k. k
      ]) refl
