-- Laws of a folded byte, and of a raised one. Assumes nothing.
-- `fold_up`: a folded byte is no less than the byte. `fold_class`: it is of the byte's class. `fold_twice`: folded
-- again it is the same. `fold_raised`, `raise_folded`: of the two, what is done last decides.
use mathlib.Core.Path.{◌≡◌, ◌∙◌, refl, sym}
use mathlib.Core.Bool.{true}
use Prim.Native.Nat.{ℕ, ◌+◌, ◌-◌, ◌≤◌}
use native.Mathlib.Omega.{arith}
use Rattle.base_notation.proofs.Cases.{by_if}
use Rattle.base_chars.specs.Class.{letter, class_of}
use Rattle.base_chars.specs.Fold.{folded, raised}
use Rattle.base_chars.specs.Range.{◌‥◌, ◌∈◌}
use Rattle.base_chars.proofs.Classes.{the_class, letter_test}
use Rattle.base_chars.proofs.Ranges.{inside, below, above, bounds}

module _ (b : ℕ) where
  pub fold_up : b ≤ folded b
  fold_up = by_if (λ x. b ≤ x) (b ∈ 65 ‥ 90) _ _ (λ e. omega arith) (λ e. omega arith)

  -- a capital letter, and the small one made of it, are letters
  capital : b ∈ 65 ‥ 90 ≡ true → class_of b ≡ letter
  capital e = the_class _ letter (letter_test b ∙ rw e)

  small : b ∈ 65 ‥ 90 ≡ true → class_of (b + 32) ≡ letter
  small e =
      let range = bounds (65 ‥ 90) b e in
      the_class _ letter (letter_test (b + 32) ∙ rw (above (65 ‥ 90) (b + 32) (omega arith), inside (97 ‥ 122) (b + 32) (omega arith) (omega arith)))

  pub fold_class : class_of (folded b) ≡ class_of b
  fold_class = by_if (λ x. class_of x ≡ class_of b) (b ∈ 65 ‥ 90) _ _ (λ e. small e ∙ sym (capital e)) (λ e. refl)

  pub fold_twice : folded (folded b) ≡ folded b
  fold_twice =
      by_if (λ x. folded x ≡ x) (b ∈ 65 ‥ 90) _ _
      (λ e. let range = bounds (65 ‥ 90) b e in rw (above (65 ‥ 90) (b + 32) (omega arith)))
      (λ e. rw e)

  pub fold_raised : folded (raised b) ≡ folded b
  fold_raised =
      by_if (λ x. folded x ≡ folded b) (b ∈ 97 ‥ 122) _ _
      (λ e.
      let range = bounds (97 ‥ 122) b e in
      let same : b - 32 + 32 ≡ b = omega arith in
      rw (inside (65 ‥ 90) (b - 32) (omega arith) (omega arith), above (65 ‥ 90) b (omega arith)) same)
      (λ e. refl)

  pub raise_folded : raised (folded b) ≡ raised b
  raise_folded =
      by_if (λ x. raised x ≡ raised b) (b ∈ 65 ‥ 90) _ _
      (λ e.
      let range = bounds (65 ‥ 90) b e in
      let same : b + 32 - 32 ≡ b = omega arith in
      rw (inside (97 ‥ 122) (b + 32) (omega arith) (omega arith), below (97 ‥ 122) b (omega arith)) same)
      (λ e. refl)
