-- The accents mode of a caller's settings: a letter with its accents counts as one character.
use Rattle.std.specs.Prelude.{◌≡◌, refl, Bool, true, false}
use Rattle.base_settings.specs.Limits.{cards, pages}
use Rattle.base_settings.specs.declared.Settings.{Settings}

-- settings with the mode on or off
abbrev pub with_accents : Bool → Settings → Settings
with_accents b set = record { limits = set.limits; strict = set.strict; accents = b }

-- it is off for the exercise pages and the flash cards, unless they say otherwise; the limits stay
pub worked
    : (pages ≡ with_accents false pages) × (cards ≡ with_accents false cards) × ((with_accents true cards).accents ≡ true)
    × ((with_accents true cards).limits ≡ cards.limits)
worked = (refl, refl, refl, refl)
