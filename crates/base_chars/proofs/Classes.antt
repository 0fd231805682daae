-- Laws of a byte's class. Assumes nothing.
-- `the_class`: a class that passed the test for k is k.
-- `space_test`, `digit_test`, `letter_test`, `separator_test`: each test of a byte's class as comparisons of the byte.
-- `digit_bounds`, `digit_class`: the digits are the bytes from 48 to 57.
-- `wide_class`: a byte that is not ASCII is of the class `other`.
use mathlib.Core.Path.{◌≡◌, ◌∙◌, refl, sym, ap}
use mathlib.Core.Bool.{Bool, true, false, not, ◌&&◌, ◌||◌, false≢true}
use mathlib.Core.List.{[], ◌∷◌}
use Prim.Native.Nat.{ℕ, ◌≤◌}
use native.Mathlib.Omega.{arith}
use borrow.Author.Tests.{ne_eqb, eqb-true}
use lib.Dec.{eqb}
use lib.ListN.{get_or}
use Rattle.base_notation.specs.Choice.{when◌then◌else◌}
use Rattle.base_chars.specs.Range.{◌‥◌, ◌∈◌}
use Rattle.base_chars.specs.Class.{Class, space, digit, letter, separator, other, class_of, rank, ◌is◌, is_space, is_digit, is_letter, is_separator}
use Rattle.base_chars.proofs.Ranges.{inside, above, bounds}

-- the class with a number: `rank` turned round
numbered : ℕ → Class
numbered n = get_or (space ∷ digit ∷ letter ∷ separator ∷ []) n other

of_rank : (c : Class) → numbered (rank c) ≡ c
unfolding numbered
of_rank space = refl
of_rank digit = refl
of_rank letter = refl
of_rank separator = refl
of_rank other = refl

pub the_class : (c k : Class) → c is k ≡ true → c ≡ k
the_class c k e = sym (of_rank c) ∙ ap numbered (eqb-true _ _ e) ∙ of_rank k

-- a class by its four tests, made in order
abbrev ordered : Bool → Bool → Bool → Bool → Class
ordered s d l p = when s then space else when d then digit else when l then letter else when p then separator else other

ordered-space : (s d l p : Bool) → ordered s d l p is space ≡ s
ordered-space true d l p = refl
ordered-space false true l p = refl
ordered-space false false true p = refl
ordered-space false false false true = refl
ordered-space false false false false = refl

ordered-digit : (s d l p : Bool) → (d ≡ true → s ≡ false) → ordered s d l p is digit ≡ d
ordered-digit true true l p f = absurd (false≢true (sym (f refl)))
ordered-digit true false l p f = refl
ordered-digit false true l p f = refl
ordered-digit false false true p f = refl
ordered-digit false false false true f = refl
ordered-digit false false false false f = refl

ordered-letter : (s d l p : Bool) → (l ≡ true → s || d ≡ false) → ordered s d l p is letter ≡ l
ordered-letter true d true p f = absurd (false≢true (sym (f refl)))
ordered-letter true d false p f = refl
ordered-letter false true true p f = absurd (false≢true (sym (f refl)))
ordered-letter false true false p f = refl
ordered-letter false false true p f = refl
ordered-letter false false false true f = refl
ordered-letter false false false false f = refl

ordered-separator : (s d l p : Bool) → (p ≡ true → s ≡ false) → ordered s d l p is separator ≡ (p && not l && not d)
ordered-separator true d l true f = absurd (false≢true (sym (f refl)))
ordered-separator true d l false f = refl
ordered-separator false true true true f = refl
ordered-separator false true false true f = refl
ordered-separator false true l false f = refl
ordered-separator false false true true f = refl
ordered-separator false false true false f = refl
ordered-separator false false false true f = refl
ordered-separator false false false false f = refl

module _ (b : ℕ) where
  abbrev blank : Bool
  blank = b ∈ 9 ‥ 13 || eqb b 32

  abbrev numeral : Bool
  numeral = b ∈ 48 ‥ 57

  abbrev alphabetic : Bool
  alphabetic = b ∈ 65 ‥ 90 || b ∈ 97 ‥ 122

  abbrev printed : Bool
  printed = b ∈ 33 ‥ 126

  -- above the blank there is no space
  no_space : 33 ≤ b → blank ≡ false
  no_space h = rw (above (9 ‥ 13) b (omega arith), ne_eqb b 32 (omega arith))

  -- a letter is 65 or above, and so above the digits
  letters_from : (u v : Bool) → b ∈ 65 ‥ 90 ≡ u → b ∈ 97 ‥ 122 ≡ v → u || v ≡ true → 65 ≤ b
  letters_from true v e f t = (bounds (65 ‥ 90) b e).0
  letters_from false true e f t = omega (arith, bounds (97 ‥ 122) b f)
  letters_from false false e f t = absurd (false≢true t)

  pub space_test : is_space b ≡ (b ∈ 9 ‥ 13 || eqb b 32)
  unfolding class_of
  space_test = ordered-space blank numeral alphabetic printed

  pub digit_test : is_digit b ≡ b ∈ 48 ‥ 57
  unfolding class_of
  digit_test = ordered-digit blank numeral alphabetic printed (λ e. no_space (omega (arith, bounds (48 ‥ 57) b e)))

  pub digit_bounds : is_digit b ≡ true → (48 ≤ b) × (b ≤ 57)
  digit_bounds e = bounds (48 ‥ 57) b (sym digit_test ∙ e)

  pub letter_test : is_letter b ≡ (b ∈ 65 ‥ 90 || b ∈ 97 ‥ 122)
  unfolding class_of
  letter_test =
      ordered-letter blank numeral alphabetic printed
      (λ e. let from_65 = letters_from _ _ refl refl e in rw (no_space (omega arith), above (48 ‥ 57) b (omega arith)))

  -- the test of a separator by comparisons alone
  raw_separator : is_separator b ≡ (printed && not alphabetic && not numeral)
  unfolding class_of
  raw_separator = ordered-separator blank numeral alphabetic printed (λ e. no_space (bounds (33 ‥ 126) b e).0)

  pub separator_test : is_separator b ≡ (b ∈ 33 ‥ 126 && not (is_letter b) && not (is_digit b))
  separator_test = raw_separator ∙ rw (letter_test, digit_test)

  -- a separator as the library tests it: it prints, and is neither a letter nor a digit
  pub separator_is : is_separator b ≡ (b ∈ 33 ‥ 126 && not (b ∈ 48 ‥ 57 || b ∈ 65 ‥ 90 || b ∈ 97 ‥ 122))
  separator_is = raw_separator ∙ by (b ∈ 33 ‥ 126) (b ∈ 48 ‥ 57) (b ∈ 65 ‥ 90) (b ∈ 97 ‥ 122)
    where
      by : (p d u l : Bool) → (p && not (u || l) && not d) ≡ (p && not (d || u || l))
      by false d u l = refl
      by true true true l = refl
      by true true false true = refl
      by true true false false = refl
      by true false true l = refl
      by true false false true = refl
      by true false false false = refl

  pub digit_class : 48 ≤ b → b ≤ 57 → class_of b ≡ digit
  unfolding class_of
  digit_class l h = rw (no_space (omega arith), inside (48 ‥ 57) b l h)

  pub wide_class : 128 ≤ b → class_of b ≡ other
  unfolding class_of
  wide_class h =
      rw (
        no_space (omega arith),
        above (48 ‥ 57) b (omega arith),
        above (65 ‥ 90) b (omega arith),
        above (97 ‥ 122) b (omega arith),
        above (33 ‥ 126) b (omega arith),
      )
