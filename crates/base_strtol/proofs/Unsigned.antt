-- A number without a sign, after spaces or not, is read as its digits say. Assumes nothing.
-- `no_space`: what begins with a digit begins with no space.
-- `strtol_digits`: digits right at the place, whose number is within the limit, are what strtol reads.
-- `strtol_field`: a number written there in w digits is what strtol reads, and the end is w bytes on.
use mathlib.Core.Path.{◌≡◌, ◌∙◌, refl, sym, ap}
use mathlib.Core.Bool.{true, false}
use mathlib.Core.List.{List, [], ◌∷◌, ◌++◌}
use Prim.Native.Nat.{ℕ, ◌+◌, ◌^◌, ◌<◌, min}
use native.Mathlib.Nat.{add-zero}
use native.Mathlib.Omega.{arith}
use borrow.Author.Tests.{ne_eqb, le-ltb}
use lib.Dec.{ltb}
use lib.IntN.{pos}
use lib.ListN.{drop}
use Rattle.base_chars.specs.Class.{digit, class_of, is_digit}
use Rattle.base_chars.proofs.Classes.{the_class, digit_bounds}
use Rattle.base_strtol.specs.Decimal.{decimal}
use Rattle.base_strtol.specs.Runs.{leading, spaces, digits, number}
use Rattle.base_strtol.specs.Strtol.{minus, signs, trimmed, limit, digits_read, strtol, answer}
use Rattle.base_strtol.specs.declared.Run.{Run}
use Rattle.base_strtol.proofs.Decimals.{field_digits, field_number}

-- the first byte of what begins with a digit
first_digit : (b : ℕ) (t : List ℕ) → 0 < digits (b ∷ t) → is_digit b ≡ true
unfolding leading
first_digit b t h =
    (elim (is_digit b) as (λ q. is_digit b ≡ q → q ≡ true) [
      | true ↦ λ q. refl
      | false ↦ λ q. absurd (omega (arith, rw q at h))
    ]) refl

pub no_space : (t : List ℕ) → 0 < digits t → spaces t ≡ 0
unfolding leading
no_space [] h = refl
no_space (b ∷ t) h = rw (the_class (class_of b) digit (first_digit b t h))

-- nor with a sign
no_sign : (t : List ℕ) → 0 < digits t → (minus t ≡ false) × (signs t ≡ 0)
no_sign [] h = (refl, refl)
no_sign (b ∷ t) h =
    let in_bounds = digit_bounds b (first_digit b t h) in
    (ne_eqb b 45 (omega arith), rw (ne_eqb b 45 (omega arith), ne_eqb b 43 (omega arith)))

module _ (s : List ℕ) (start : ℕ) where
  -- spaces, and digits after them
  pub strtol_unsigned
      : 0 < digits (trimmed (drop start s))
      → strtol s start ≡ answer (pos (min (number (trimmed (drop start s))) (limit false)))
      (start + spaces (drop start s) + digits (trimmed (drop start s)))
      (ltb (limit false) (number (trimmed (drop start s))))
  unfolding strtol
  strtol_unsigned h =
      let u = trimmed (drop start s) in
      let sign_none = no_sign u h in
      rw (sign_none.1, sign_none.0, ne_eqb (digits u) 0 (omega arith), add-zero)

  pub strtol_digits : {value end : ℕ} → record { value = value; end = end; over = false } ≡ digits_read (limit false) start (drop start s) → (end ≡ start → ⊥)
      → strtol s start ≡ answer (pos value) end false
  strtol_digits r moved =
      let u = drop start s in
      let end_is = ap (λ (x : Run). x.end) r in
      let some_digits : 0 < digits u = omega (arith, end_is, moved) in
      let space_none = no_space u some_digits in
      rw (space_none, add-zero) at (strtol_unsigned (rw space_none some_digits))
      ∙ λ i. answer (pos (sym r i).value) (sym r i).end (sym r i).over

  module _ (w n : ℕ) (t : List ℕ) (some : 0 < w) (small : n < 10 ^ w) (fits : n < 2 ^ 63) (stops : digits t ≡ 0) where
    -- spaces, a number written in w digits, and a text that begins with no digit
    pub strtol-decimal : trimmed (drop start s) ≡ decimal w n ++ t → strtol s start ≡ answer (pos n) (start + spaces (drop start s) + w) false
    strtol-decimal e =
        let u = trimmed (drop start s) in
        let count_is : digits u ≡ w = ap digits e ∙ field_digits w n t small stops in
        let number_is : number u ≡ n = ap number e ∙ field_number w n t small stops in
        let least : min n (limit false) ≡ n = omega arith in
        strtol_unsigned (omega arith) ∙ rw (number_is, count_is, least, le-ltb (limit false) n (omega arith))

    -- the same without spaces
    pub strtol_field : drop start s ≡ decimal w n ++ t → strtol s start ≡ answer (pos n) (start + w) false
    strtol_field e =
        let count_is : digits (drop start s) ≡ w = ap digits e ∙ field_digits w n t small stops in
        let space_none = no_space (drop start s) (omega arith) in
        strtol-decimal (rw space_none e) ∙ rw (space_none, add-zero)
