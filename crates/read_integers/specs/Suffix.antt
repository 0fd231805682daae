-- What follows a pattern in the template, and what an ordinal suffix skips in the input.
use Rattle.std.specs.Prelude.{◌≡◌, refl, Bool, true, false, not, ◌&&◌, ◌||◌, List, ◌++◌, ℕ, ◌+◌, ◌≤◌, max, eqb, length}
use Rattle.std.specs.Int.Bits.{bit_and}
use Rattle.base_notation.specs.Choice.{when◌then◌else◌}
use Rattle.base_notation.specs.Text.{byte_at, encoded, utf8}
use Rattle.base_chars.specs.Class.{is_digit}
use Rattle.base_accents.specs.Accents.{measure_of, measure_computes}
use Rattle.template_patterns.specs.Patterns.{pattern_of}
use Rattle.template_nodes.specs.Template.{end, action}
use Rattle.template_nodes.specs.declared.Node.{Node}

-- the suffix bits have one of a mask's
abbrev pub has : ℕ → ℕ → Bool
has mask bits = not (eqb (bit_and bits mask) 0)

-- FM, and TH or th
abbrev pub filled : ℕ → Bool
filled bits = has 1 bits

abbrev pub ordinal : ℕ → Bool
ordinal bits = has 6 bits

-- what comes after a pattern of the template t is no digit: an ordinal suffix, the end, another pattern that is not
-- read as digits, or a literal that is no digit
unfoldable pub ends_number : List ℕ → Node → Node → Bool
ends_number t n next =
    when ordinal n.suffix || eqb next.kind end then true
    else when eqb next.kind action then not (pattern_of next.pattern).is_digit
    else not (eqb next.len 1 && is_digit (byte_at t next.start))

-- a number takes all digits that are there with FM, or where what follows ends it
abbrev pub is_free : List ℕ → Node → Node → Bool
is_free t n next = filled n.suffix || ends_number t n next

-- an ordinal suffix skips two characters, which the accents mode measures in its own way
unfoldable pub past_ordinal : List ℕ → ℕ → Bool → ℕ → ℕ
past_ordinal s at accents bits =
    let one = at + measure_of accents s at in
    when ordinal bits then one + measure_of accents s one else at

-- r is the place after an ordinal suffix, within the input if the place before it is
pub record Skipped (s : List ℕ) (at : ℕ) (accents : Bool) (bits r : ℕ) : Type 0 where
  pub is : r ≡ past_ordinal s at accents bits
  pub from : at ≤ r
  pub within : r ≤ max at (length s)

-- the th of 5th is skipped, and no more than the input has
pub worked : (past_ordinal (utf8 "5th.") 1 false 4 ≡ 3) × (past_ordinal (utf8 "5t") 1 false 4 ≡ 2) × (past_ordinal (utf8 "5th.") 1 false 0 ≡ 1)
unfolding past_ordinal measure_computes
worked = (refl, refl, refl)

-- with a mark on the h the accents mode skips it too
pub marked : (past_ordinal (utf8 "5th" ++ encoded 0x301) 1 true 4 ≡ 5) × (past_ordinal (utf8 "5th" ++ encoded 0x301) 1 false 4 ≡ 3)
unfolding past_ordinal measure_computes
marked = (refl, refl)
