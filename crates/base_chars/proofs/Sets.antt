-- Sets of numbers below 128, given by bits. Assumes nothing.
-- `set_is`: what one computed test (`holds`) says of the numbers below 128 holds of each.
-- `blanks`: the set that `is_blank` asks has the spaces and the separators.
use mathlib.Core.Path.{◌≡◌, refl}
use mathlib.Core.Bool.{Bool, true, false, beq, ◌||◌}
use Prim.Native.Nat.{ℕ, ◌≤◌}
use native.Mathlib.Omega.{arith}
use borrow.Author.Tests.{ltb-true, ltb-false, le-ltb}
use lib.Dec.{ltb}
use lib.ListN.{replicate}
use Rattle.base_notation.proofs.Cases.{beq-true}
use Rattle.base_notation.proofs.Table.{all_from, entry}
use Rattle.base_chars.specs.Class.{class_of, is_space, is_separator}
use Rattle.base_chars.specs.Sets.{in_set}
use Rattle.base_chars.proofs.Classes.{wide_class}

module _ (low high : ℕ) (f : ℕ → Bool) where
  -- the set has exactly those numbers below 128 that have the property f
  abbrev pub holds : Bool
  holds = all_from (λ (k x : ℕ). beq (in_set low high k) (f k)) 0 (replicate 128 0)

  -- then it has exactly the numbers with the property, where none from 128 on has it
  pub set_is : holds ≡ true → ((k : ℕ) → 128 ≤ k → f k ≡ false) → (k : ℕ) → in_set low high k ≡ f k
  unfolding in_set
  set_is test none k = split (ltb k 128) refl
    where
      split : (b : Bool) → ltb k 128 ≡ b → in_set low high k ≡ f k
      split true q = beq-true _ _ (entry (λ (k x : ℕ). beq (in_set low high k) (f k)) 0 (replicate 128 0) test k (ltb-true _ _ q))
      split false q =
          let from_128 : 128 ≤ k = ltb-false _ _ q in
          rw (le-ltb k 64 (omega arith), le-ltb k 128 from_128, none k from_128)

pub blanks : (b : ℕ) → in_set 0xfc00ffff00003e00 0x78000001f8000001 b ≡ (is_space b || is_separator b)
unfolding in_set class_of
blanks = set_is 0xfc00ffff00003e00 0x78000001f8000001 (λ (b : ℕ). is_space b || is_separator b) refl (λ b h. rw (wide_class b h))
