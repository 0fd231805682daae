-- A number of few digits right at a place. Assumes nothing.
-- `few_digits`: it is read the same by its width and free, where it has as many digits as the width; and free in any
-- case.
-- `few_no_space`: no space is before it.
use Rattle.std.specs.Prelude.{Ok, Some}
use mathlib.Core.Path.{◌≡◌, ◌∙◌, refl, sym, ap}
use mathlib.Core.Bool.{Bool, true, false}
use mathlib.Core.List.{List, [], ◌∷◌}
use Prim.Native.Nat.{ℕ, ◌+◌, ◌-◌, ◌*◌, ◌^◌, ◌<◌, ◌≤◌}
use native.Mathlib.Nat.{add-zero, zero-add}
use native.Mathlib.Omega.{arith}
use borrow.Author.Tests.{lt-ltb, le-ltb}
use lib.IntN.{pos}
use lib.ListN.{length, take, drop, length-drop}
use Rattle.base_chars.specs.Class.{is_digit}
use Rattle.base_strtol.specs.Runs.{leading, spaces, digits, number, number_from}
use Rattle.base_strtol.specs.Strtol.{answer, few, short_at, strtol}
use Rattle.base_strtol.specs.declared.Short.{Short}
use Rattle.base_strtol.proofs.FewDigits.{short_from, short_is, short_small, short_strtol}
use Rattle.base_strtol.proofs.Leading.{leading_within}
use Rattle.base_strtol.proofs.Unsigned.{no_space}
use Rattle.read_integers.specs.Number.{up_to, checked, fixed_at, number_at}
use Rattle.read_integers.proofs.Numbers.{accepted}

-- the digits in front, taken alone, are as many, and are the same number
digits_taken : (u : List ℕ) → digits (take (digits u) u) ≡ digits u
unfolding leading
digits_taken [] = refl
digits_taken (b ∷ u) =
    (elim (is_digit b) as (λ q. is_digit b ≡ q → digits (take (digits (b ∷ u)) (b ∷ u)) ≡ digits (b ∷ u)) [
      | true ↦ λ e. rw e (rw e (omega (arith, digits_taken u)))
      | false ↦ λ e. rw e refl
    ]) refl

number_taken : (n : ℕ) (u : List ℕ) → number_from n (take (digits u) u) ≡ number_from n u
unfolding leading number_from
number_taken n [] = refl
number_taken n (b ∷ u) =
    (elim (is_digit b) as (λ q. is_digit b ≡ q → number_from n (take (digits (b ∷ u)) (b ∷ u)) ≡ number_from n (b ∷ u)) [
      | true ↦ λ e. rw e (rw e (number_taken (n * 10 + (b - 48)) u))
      | false ↦ λ e. rw e refl
    ]) refl

module _ (s : List ℕ) (at pattern width : ℕ) (d : Short) (found : short_at s at ≡ Some d) where
  abbrev u : List ℕ
  u = drop at s

  -- all digits that are there are the number, and it is small
  whole : (d.value ≡ number u) × (d.end ≡ at + digits u) × (0 < digits u) × (number u < 1000000000)
  whole = short_is s at d found

  -- it passes the checks
  taken : checked pattern at (answer (pos d.value) d.end false) ≡ Ok (up_to (pos d.value) d.end)
  taken =
      sym (accepted pattern at _ (λ e. omega (arith, e, short_from s at d found)) refl
      (lt-ltb d.value (2 ^ 31) (omega (arith, short_small s at d found))))

  -- as many digits as the width
  module _ (count : digits u ≡ width) where
    some : 0 < width
    some = omega (arith, whole.2)

    -- taken alone
    alone : short_at (take width u) 0 ≡ Some (few d.value width)
    unfolding short_at
    alone =
        let number_is : number (take width u) ≡ number u = rw (← count) (number_taken 0 u) in
        let digits_is : digits (take width u) ≡ width = rw (← count) (digits_taken u) in
        rw (number_is, digits_is, lt-ltb (number u) 1000000000 whole.3, lt-ltb 0 width some, zero-add, whole.0) refl

    in_field : strtol (take width u) 0 ≡ answer (pos d.value) width false
    in_field = short_strtol (take width u) 0 (few d.value width) alone

    -- by its width
    fixed : fixed_at s at width pattern ≡ Ok (up_to (pos d.value) d.end)
    unfolding fixed_at
    fixed =
        let no_spaces = no_space u whole.2 in
        let room : width ≤ length s - at = omega (arith, leading_within is_digit u, length-drop at s) in
        let end_is : at + width ≡ d.end = omega (arith, whole.1) in
        rw (no_spaces, add-zero at, in_field, le-ltb (length s - at) width room, lt-ltb 0 width some, le-ltb width width (omega arith), end_is) taken

  -- free
  free : checked pattern at (strtol s at) ≡ Ok (up_to (pos d.value) d.end)
  free = ap (checked pattern at) (short_strtol s at d found) ∙ taken

  pub few_digits : (is_free : Bool) → (is_free ≡ false → d.end - at ≡ width) → number_at s at width pattern is_free ≡ Ok (up_to (pos d.value) d.end)
  unfolding number_at
  few_digits true h = free
  few_digits false h = fixed (omega (arith, whole.1, h refl))

  -- no space is before it
  pub few_no_space : spaces u ≡ 0
  few_no_space = no_space u whole.2
