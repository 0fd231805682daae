-- The strict switch of a caller's settings.
use Rattle.std.specs.Prelude.{◌≡◌, refl, Bool, true, false}
use Rattle.base_settings.specs.Limits.{cards, pages}
use Rattle.base_settings.specs.declared.Settings.{Settings}

-- settings with the switch on or off
abbrev pub with_strict : Bool → Settings → Settings
with_strict b set = record { limits = set.limits; strict = b; accents = set.accents }

-- it is off for the exercise pages and the flash cards, unless they say otherwise; the limits stay
pub worked
    : (pages ≡ with_strict false pages) × (cards ≡ with_strict false cards) × ((with_strict true cards).strict ≡ true)
    × ((with_strict true cards).limits ≡ cards.limits)
worked = (refl, refl, refl, refl)
