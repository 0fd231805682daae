-- Laws of a character's length. Assumes nothing.
-- `lead_one` to `lead_four`, `lead_none`: the length that the first byte says, for each range of first bytes.
-- `measured`: a length that was found is at most 4, at least 1 where a byte is left, and within the text.
-- `measure`: the same of the length itself, for a definition that goes on by it.
use mathlib.Core.Path.{◌≡◌, refl}
use mathlib.Core.List.{List}
use Prim.Native.Nat.{ℕ, ◌≤◌, ◌<◌}
use native.Mathlib.Omega.{arith}
use Rattle.base_notation.specs.Text.{byte_at}
use Rattle.base_notation.proofs.Cases.{by_if}
use Rattle.base_chars.specs.Range.{◌‥◌, ◌∈◌}
use Rattle.base_chars.specs.Character.{lead, char_length, Measured}
use Rattle.base_chars.proofs.Ranges.{inside, below, above}

abbrev Small : ℕ → Type 0
Small n = (1 ≤ n) × (n ≤ 4)

module _ (b : ℕ) where
  pub lead_one : b < 0xc0 → lead b ≡ 1
  unfolding lead
  lead_one h =
      rw (below (0xc0 ‥ 0xdf) b h, below (0xe0 ‥ 0xef) b (omega arith), below (0xf0 ‥ 0xf7) b (omega arith))

  pub lead_two : 0xc0 ≤ b → b < 0xe0 → lead b ≡ 2
  unfolding lead
  lead_two l h = rw (inside (0xc0 ‥ 0xdf) b l (omega arith))

  pub lead_three : 0xe0 ≤ b → b < 0xf0 → lead b ≡ 3
  unfolding lead
  lead_three l h = rw (above (0xc0 ‥ 0xdf) b (omega arith), inside (0xe0 ‥ 0xef) b l (omega arith))

  pub lead_four : 0xf0 ≤ b → b < 0xf8 → lead b ≡ 4
  unfolding lead
  lead_four l h =
      rw (above (0xc0 ‥ 0xdf) b (omega arith), above (0xe0 ‥ 0xef) b (omega arith), inside (0xf0 ‥ 0xf7) b l (omega arith))

  pub lead_none : 0xf8 ≤ b → lead b ≡ 1
  unfolding lead
  lead_none h =
      rw (above (0xc0 ‥ 0xdf) b (omega arith), above (0xe0 ‥ 0xef) b (omega arith), above (0xf0 ‥ 0xf7) b (omega arith))

  pub lead_bounds : (1 ≤ lead b) × (lead b ≤ 4)
  unfolding lead
  lead_bounds =
      by_if Small (b ∈ 0xc0 ‥ 0xdf) _ _ (λ e. omega arith)
      (λ e. by_if Small (b ∈ 0xe0 ‥ 0xef) _ _ (λ f. omega arith)
      (λ f. by_if Small (b ∈ 0xf0 ‥ 0xf7) 4 1 (λ g. omega arith) (λ g. omega arith)))

pub measured : (s : List ℕ) (at r : ℕ) → r ≡ char_length s at → Measured s at r
unfolding char_length
measured s at r e =
    let lead_small = lead_bounds (byte_at s at) in
    record { is = e; some = omega arith; most = omega arith; within = omega arith }

pub measure : (s : List ℕ) (at : ℕ) → Measured s at (char_length s at)
measure s at = measured s at (char_length s at) refl
