-- Settings as the bits of a number, as other languages give them.
use Rattle.std.specs.Prelude.{◌≡◌, refl, Bool, true, not, ℕ, eqb}
use Rattle.std.specs.Int.Bits.{bit_and}
use Rattle.base_notation.specs.Choice.{when◌then◌else◌}
use Rattle.base_settings.specs.Accents.{with_accents}
use Rattle.base_settings.specs.Limits.{card_limits, cards, page_limits, pages}
use Rattle.base_settings.specs.Strict.{with_strict}
use Rattle.base_settings.specs.declared.Limits.{Limits}
use Rattle.base_settings.specs.declared.Settings.{Settings}

-- the bits of the accents mode, of the strict switch and of the flash cards
abbrev pub accents_bit : ℕ
accents_bit = 1

abbrev pub strict_bit : ℕ
strict_bit = 2

abbrev pub cards_bit : ℕ
cards_bit = 4

abbrev pub limits_of : ℕ → Limits
limits_of bits = when eqb (bit_and bits cards_bit) 0 then page_limits else card_limits

abbrev pub strict_of : ℕ → Bool
strict_of bits = not (eqb (bit_and bits strict_bit) 0)

abbrev pub accents_of : ℕ → Bool
accents_of bits = not (eqb (bit_and bits accents_bit) 0)

-- the settings; bits that mean nothing are ignored
abbrev pub settings_of : ℕ → Settings
settings_of bits = record { limits = limits_of bits; strict = strict_of bits; accents = accents_of bits }

-- no bit is the exercise pages, 4 the flash cards; 2 makes each of them strict, 1 counts a letter with its accents as
-- one character; 8 means nothing, by itself and beside 4
pub worked
    : (settings_of 0 ≡ pages) × (settings_of 4 ≡ cards) × (settings_of 2 ≡ with_strict true pages) × (settings_of 6 ≡ with_strict true cards)
    × (settings_of 1 ≡ with_accents true pages) × (settings_of 7 ≡ with_accents true (with_strict true cards))
    × (settings_of 8 ≡ settings_of 0) × (settings_of 12 ≡ settings_of 4)
worked = (refl, refl, refl, refl, refl, refl, refl, refl)
