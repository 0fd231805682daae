-- Laws of a byte in a range. Assumes nothing.
-- `inside`, `below`, `above`: the test of a byte that is in the range, below it or above it.
-- `bounds`: a byte that passed the test is between the two ends.
use mathlib.Core.Path.{◌≡◌}
use mathlib.Core.Bool.{true, false, and-false}
use Prim.Native.Nat.{ℕ, ◌≤◌, ◌<◌}
use borrow.Author.Tests.{le-leb, lt-leb, leb-true}
use lib.Dec.{leb}
use Rattle.base_notation.proofs.Cases.{both}
use Rattle.base_chars.specs.Range.{Range, ◌∈◌}

module _ (r : Range) (b : ℕ) where
  pub inside : r.low ≤ b → b ≤ r.high → b ∈ r ≡ true
  inside l h = rw (le-leb r.low b l, le-leb b r.high h)

  pub below : b < r.low → b ∈ r ≡ false
  below l = rw (lt-leb r.low b l)

  pub above : r.high < b → b ∈ r ≡ false
  above h = rw (lt-leb b r.high h) (and-false (leb r.low b))

  pub bounds : b ∈ r ≡ true → (r.low ≤ b) × (b ≤ r.high)
  bounds e =
      let tests = both (leb r.low b) (leb b r.high) e in
      (leb-true _ _ tests.0, leb-true _ _ tests.1)
