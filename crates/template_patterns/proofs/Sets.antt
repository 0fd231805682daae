-- Sets of patterns by their bits. Assumes nothing.
-- `digits`: the set has exactly the patterns that are read as digits.
-- `smalls`, `titles`: the set has exactly the patterns in that case.
use mathlib.Core.Path.{◌≡◌, refl, ◌∙◌, ap}
use mathlib.Core.Bool.{Bool, false, not, ◌&&◌}
use mathlib.Core.List.{List}
use Prim.Native.Nat.{ℕ, ◌≤◌}
use native.Mathlib.Omega.{arith}
use lib.ListN.{get_or-eq_default}
use Rattle.template_patterns.specs.Cases.{is_small}
use Rattle.template_patterns.specs.Patterns.{Pattern, patterns, pattern_of}
use Rattle.base_chars.specs.Sets.{in_set}
use Rattle.base_chars.proofs.Sets.{set_is}

-- past the table all patterns are the one without a name
past_table : (k : ℕ) → 112 ≤ k → pattern_of k ≡ pattern_of 112
past_table k h = get_or-eq_default patterns (pattern_of 112) h

-- what no pattern past the table has
none : (f : Pattern → Bool) → f (pattern_of 112) ≡ false → (k : ℕ) → 128 ≤ k → f (pattern_of k) ≡ false
none f e k h = ap f (past_table k (omega arith)) ∙ e

pub digits : (k : ℕ) → in_set 0x03fd7413ffefe340 0xff5d13ffefed k ≡ (pattern_of k).is_digit
unfolding in_set
digits = set_is 0x03fd7413ffefe340 0xff5d13ffefed (λ (k : ℕ). (pattern_of k).is_digit) refl (none (λ (p : Pattern). p.is_digit) refl)

-- a name whose first letter is small
pub smalls : (k : ℕ) → in_set 0xfc00000000000000 0xffffffffffff k ≡ is_small (pattern_of k).name 0
unfolding in_set
smalls = set_is 0xfc00000000000000 0xffffffffffff (λ (k : ℕ). is_small (pattern_of k).name 0) refl (none (λ (p : Pattern). is_small p.name 0) refl)

-- a name whose second letter is small, and not its first
abbrev is_title : List ℕ → Bool
is_title name = not (is_small name 0) && is_small name 1

pub titles : (k : ℕ) → in_set 0x6000001800 0 k ≡ is_title (pattern_of k).name
unfolding in_set
titles = set_is 0x6000001800 0 (λ (k : ℕ). is_title (pattern_of k).name) refl (none (λ (p : Pattern). is_title p.name) refl)
