-- Laws of the bytes in front of a text that pass a test, and of the number of its digits. Assumes nothing.
-- `leading_within`, `leading_place`: these bytes end within the text.
-- `leading_on`, `leading_stop`, `leading_end`: how many there are from a place on: where the byte there passes,
-- where it does not, and past the end.
-- `number_on`, `number_stop`, `number_end`: the number of the digits from a place on, in the same three cases.
use mathlib.Core.Path.{◌≡◌, refl}
use mathlib.Core.Bool.{Bool, true, false}
use mathlib.Core.List.{List, [], ◌∷◌}
use Prim.Native.Nat.{ℕ, suc, ◌+◌, ◌-◌, ◌*◌, ◌≤◌, ◌<◌, max}
use native.Mathlib.Numerals.{add-one}
use native.Mathlib.Omega.{arith}
use lib.ListN.{length, drop, drop_of_length-le, length-drop}
use lib.Seq.{drop-cons}
use Rattle.base_notation.specs.Text.{byte_at}
use Rattle.base_notation.proofs.Cases.{by_if}
use Rattle.base_chars.specs.Class.{is_digit}
use Rattle.base_strtol.specs.Runs.{leading, number_from}

module _ (test : ℕ → Bool) where
  pub leading_within : (s : List ℕ) → leading test s ≤ length s
  unfolding leading
  leading_within [] = omega arith
  leading_within (b ∷ s) =
      by_if (λ (n : ℕ). n ≤ suc (length s)) (test b) (suc (leading test s)) 0 (λ e. omega (arith, leading_within s)) (λ e. omega arith)

  -- after them the next byte fails the test
  pub leading_once : (s : List ℕ) → leading test (drop (leading test s) s) ≡ 0
  unfolding leading
  leading_once [] = refl
  leading_once (b ∷ s) =
      (elim (test b) as (λ t. test b ≡ t → leading test (drop (leading test (b ∷ s)) (b ∷ s)) ≡ 0) [
        | true ↦ λ e. rw e (leading_once s)
        | false ↦ λ e. rw e (rw e refl)
      ]) refl

  module _ (s : List ℕ) (at : ℕ) where
    pub leading_place : at + leading test (drop at s) ≤ max at (length s)
    leading_place = omega (arith, leading_within (drop at s), length-drop at s)

    pub leading_on : at < length s → test (byte_at s at) ≡ true → leading test (drop at s) ≡ suc (leading test (drop (at + 1) s))
    unfolding leading
    leading_on h e = rw (add-one, drop-cons s at 0 h) (rw e refl)

    pub leading_stop : at < length s → test (byte_at s at) ≡ false → leading test (drop at s) ≡ 0
    unfolding leading
    leading_stop h e = rw (drop-cons s at 0 h, e)

    pub leading_end : length s ≤ at → leading test (drop at s) ≡ 0
    unfolding leading
    leading_end h = rw (drop_of_length-le s h)

module _ (n : ℕ) (s : List ℕ) (at : ℕ) where
  pub number_on
      : at < length s → is_digit (byte_at s at) ≡ true
      → number_from n (drop at s) ≡ number_from (n * 10 + (byte_at s at - 48)) (drop (at + 1) s)
  unfolding number_from
  number_on h e = rw (add-one, drop-cons s at 0 h) (rw e refl)

  pub number_stop : at < length s → is_digit (byte_at s at) ≡ false → number_from n (drop at s) ≡ n
  unfolding number_from
  number_stop h e = rw (drop-cons s at 0 h, e)

  pub number_end : length s ≤ at → number_from n (drop at s) ≡ n
  unfolding number_from
  number_end h = rw (drop_of_length-le s h)
