-- Laws of well-formed UTF-8. Assumes nothing.
-- `empty_text`: the empty text is well-formed.
-- `past_sequence_at`: the text after a sequence is well-formed exactly when the text from the sequence on is.
-- `ascii_run`: the text after a run of ASCII is well-formed exactly when the text from the run on is.
-- `no_sequence_at`: a text is not well-formed where no sequence begins it.
-- `end_of_text`: what is left at the end is well-formed.
-- `append_text`: two texts together, the first of them well-formed, are well-formed exactly when the second is.
-- `char_is_sequence`: at the start of a character, its length by the first byte is that of its sequence.
-- `next_boundary`: a step by that length goes to the start of the next character, or to the end.
-- `one_character`: a character by itself is a well-formed text.
use mathlib.Core.Path.{◌≡◌, ◌∙◌, refl, sym}
use mathlib.Core.Bool.{true, false, false≢true}
use mathlib.Core.List.{List, [], ◌∷◌, ◌++◌}
use Prim.Native.Nat.{ℕ, zero, suc, ◌+◌, ◌-◌, ◌≤◌, ◌<◌}
use native.Mathlib.Omega.{arith}
use native.Mathlib.Nat.{le_of_suc-le-suc, not-suc-le-zero}
use lib.Dec.{ltb}
use lib.ListN.{length, take, drop, replicate, drop_of_length-le, length-drop, length-take}
use lib.Seq.{drop-nil, drop-cons, drop-drop}
use borrow.Author.Tests.{lt-ltb, ltb-true, ltb-false}
use Rattle.base_notation.proofs.Cases.{both}
use Rattle.base_notation.specs.Text.{byte_at}
use Rattle.base_chars.specs.Character.{char_length}
use Rattle.base_chars.specs.Range.{◌‥◌, ◌∈◌}
use Rattle.base_chars.specs.Utf8.{begins, sequence, well_formed_after, well_formed}
use Rattle.base_chars.proofs.Sequences.{sequence_within, sequence-append, sequence-take, sequence-lead, ascii}

pub empty_text : well_formed [] ≡ true
unfolding well_formed_after
empty_text = refl

-- the rest of a sequence is passed over
after_drop : (k : ℕ) (s : List ℕ) → well_formed_after k s ≡ well_formed (drop k s)
unfolding well_formed_after
after_drop zero s = refl
after_drop (suc k) [] = refl
after_drop (suc k) (b ∷ s) = after_drop k s

-- a sequence taken off in front
pub past_sequence : (s : List ℕ) → well_formed (drop (sequence s) s) ≡ well_formed s
unfolding well_formed_after
past_sequence [] = rw drop-nil
past_sequence (b ∷ s) =
    (elim (sequence (b ∷ s)) as (λ n. sequence (b ∷ s) ≡ n → well_formed (drop n (b ∷ s)) ≡ well_formed (b ∷ s)) [
      | zero ↦ λ e. refl
      | suc n ↦ λ e. rw (e, lt-ltb 0 (suc n) (omega arith)) (sym (after_drop n s))
    ]) refl

pub past_sequence_at : (s : List ℕ) (at n : ℕ) → n ≡ sequence (drop at s) → well_formed (drop (at + n) s) ≡ well_formed (drop at s)
past_sequence_at s at n e = rw (e, ← drop-drop (sequence (drop at s)) at s) (past_sequence (drop at s))

pub ascii_run : (n : ℕ) (s : List ℕ) → begins (replicate n (0x00 ‥ 0x7f)) s ≡ true → well_formed (drop n s) ≡ well_formed s
ascii_run zero s e = refl
ascii_run (suc n) [] e = absurd (false≢true e)
ascii_run (suc n) (b ∷ s) e =
    let tests = both (b ∈ 0x00 ‥ 0x7f) _ e in
    ascii_run n s tests.1 ∙ past_sequence_at (b ∷ s) 0 1 (sym (ascii b s tests.0))

-- where no sequence begins
no_sequence : (b : ℕ) (s : List ℕ) → sequence (b ∷ s) ≡ 0 → well_formed (b ∷ s) ≡ false
unfolding well_formed_after
no_sequence b s e = rw e

pub no_sequence_at : (s : List ℕ) (at : ℕ) → at < length s → 0 ≡ sequence (drop at s) → well_formed (drop at s) ≡ false
no_sequence_at s at h e =
    let first_and_rest = drop-cons s at 0 h in
    rw first_and_rest (no_sequence (byte_at s at) (drop (suc at) s) (sym (rw first_and_rest at e)))

pub end_of_text : (s : List ℕ) (at : ℕ) → length s ≤ at → well_formed (drop at s) ≡ true
end_of_text s at h = rw (drop_of_length-le s h) empty_text

-- a text that is not empty begins with a sequence
begun : (b : ℕ) (s : List ℕ) → well_formed (b ∷ s) ≡ true → 0 < sequence (b ∷ s)
unfolding well_formed_after
begun b s e = ltb-true _ _ (both (ltb 0 (sequence (b ∷ s))) _ e).0

-- `append_text`, after k more bytes of a sequence that was found
append_after : (k : ℕ) (s t : List ℕ) → k ≤ length s → well_formed_after k s ≡ true → well_formed_after k (s ++ t) ≡ well_formed t
unfolding well_formed_after
append_after zero [] t h e = refl
append_after (suc k) [] t h e = absurd (not-suc-le-zero h)
append_after (suc k) (b ∷ s) t h e = append_after k s t (le_of_suc-le-suc h) e
append_after zero (b ∷ s) t h e =
    (elim (sequence (b ∷ s)) as (λ n. sequence (b ∷ s) ≡ n → well_formed (b ∷ s ++ t) ≡ well_formed t) [
      | zero ↦ λ q. absurd (omega (arith, begun b s e))
      | suc n ↦ λ q.
          rw (sequence-append b s t n q, lt-ltb 0 (suc n) (omega arith))
          (append_after n s t (omega (arith, sequence_within (b ∷ s))) (rw (q, lt-ltb 0 (suc n) (omega arith)) at e))
    ]) refl

pub append_text : (s t : List ℕ) → well_formed s ≡ true → well_formed (s ++ t) ≡ well_formed t
append_text s t e = append_after 0 s t (omega arith) e

pub char_is_sequence : (s : List ℕ) (at : ℕ) → at < length s → well_formed (drop at s) ≡ true → char_length s at ≡ sequence (drop at s)
unfolding char_length
char_is_sequence s at h e =
    let b = byte_at s at in
    let t = drop (suc at) s in
    let first_and_rest : drop at s ≡ b ∷ t = drop-cons s at 0 h in
    let some : 0 < sequence (b ∷ t) = begun b t (rw first_and_rest at e) in
    let room : sequence (b ∷ t) ≤ length s - at = omega (arith, sequence_within (b ∷ t), length-drop (suc at) s) in
    rw first_and_rest (omega (arith, sequence-lead b t some))

pub next_boundary : (s : List ℕ) (at : ℕ) → well_formed (drop at s) ≡ true → well_formed (drop (at + char_length s at) s) ≡ true
next_boundary s at e =
    (elim (ltb at (length s)) as (λ t. ltb at (length s) ≡ t → well_formed (drop (at + char_length s at) s) ≡ true) [
      | true ↦ λ q. past_sequence_at s at (char_length s at) (char_is_sequence s at (ltb-true _ _ q) e) ∙ e
      | false ↦ λ q. end_of_text s (at + char_length s at) (omega (arith, ltb-false at (length s) q))
    ]) refl

-- a sequence by itself is a well-formed text
one_sequence : (b : ℕ) (s : List ℕ) (n : ℕ) → sequence (b ∷ s) ≡ suc n → well_formed (b ∷ take n s) ≡ true
one_sequence b s n e =
    let short : length (take n s) ≤ n = omega (arith, length-take n s) in
    sym (past_sequence (b ∷ take n s)) ∙ rw (sequence-take b s n e, drop_of_length-le (take n s) short) empty_text

pub one_character : (s : List ℕ) (at : ℕ) → at < length s → well_formed (drop at s) ≡ true → well_formed (take (char_length s at) (drop at s)) ≡ true
one_character s at h e =
    let b = byte_at s at in
    let t = drop (suc at) s in
    let first_and_rest : drop at s ≡ b ∷ t = drop-cons s at 0 h in
    (elim (sequence (b ∷ t)) as (λ n. sequence (b ∷ t) ≡ n → well_formed (take (char_length s at) (drop at s)) ≡ true) [
      | zero ↦ λ q. absurd (omega (arith, begun b t (rw first_and_rest at e)))
      | suc n ↦ λ q. rw (char_is_sequence s at h e, first_and_rest, q) (one_sequence b t n q)
    ]) refl
