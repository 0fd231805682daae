-- The prefixes and suffixes of a pattern (DCH_suff of formatting.c), each with its bit.
use Rattle.std.specs.Prelude.{◌≡◌, refl, Bool, true, false, ◌&&◌, List, [], ◌∷◌, ℕ, eqb}
use Rattle.std.specs.Bool.{beq}
use Prim.Native.String.{String}
use Rattle.base_notation.specs.Choice.{when◌then◌else◌}
use Rattle.base_notation.specs.Text.{utf8}
use Rattle.template_patterns.specs.Search.{matches_at}

pub record Affix : Type 0 where
  pub name : List ℕ
  pub bit : ℕ
  pub is_prefix : Bool

abbrev affix : String → ℕ → Bool → Affix
affix name bit is_prefix = record { name = utf8 name; bit = bit; is_prefix = is_prefix }

abbrev prefix : Bool
prefix = true

abbrev suffix : Bool
suffix = false

abbrev pub affixes : List Affix
affixes =
    affix "FM" 1 prefix
    ∷ affix "fm" 1 prefix
    ∷ affix "TM" 16 prefix
    ∷ affix "tm" 16 prefix
    ∷ affix "TH" 2 suffix
    ∷ affix "th" 4 suffix
    ∷ affix "SP" 8 suffix
    ∷ []

-- the bit of the first prefix, or suffix if one is wanted, that is at a place; 0 if none is
abbrev pub bit_from : List Affix → Bool → List ℕ → ℕ → ℕ
bit_from [] wanted t at = 0
bit_from (a ∷ rest) wanted t at =
    when beq a.is_prefix wanted && matches_at a.name t at then a.bit else bit_from rest wanted t at

-- the bit of the prefix or suffix at a place of a template
unfoldable pub bit_at : Bool → List ℕ → ℕ → ℕ
bit_at wanted t at = bit_from affixes wanted t at

-- the letters of the affix with a bit: each has two
abbrev pub affix_length : ℕ → ℕ
affix_length bit = when eqb bit 0 then 0 else 2

-- FM is a prefix of Month and th a suffix of DD; TH is no prefix
pub worked : (bit_at true (utf8 "FMMonth") 0 ≡ 1) × (bit_at false (utf8 "DDth") 2 ≡ 4) × (bit_at true (utf8 "THDD") 0 ≡ 0)
unfolding bit_at
worked = (refl, refl, refl)
