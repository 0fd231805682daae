-- The limits of a template and of an input, in bytes, by the settings of a caller.
use Rattle.std.specs.Prelude.{◌≡◌, refl, false, ℕ, min}
use Rattle.base_settings.specs.declared.Limits.{Limits}
use Rattle.base_settings.specs.declared.Settings.{Settings}

abbrev pub limits : ℕ → ℕ → Limits
limits template input = record { template = template; input = input }

-- those of the exercise pages, which are the greatest that there are, and those of the flash cards
abbrev pub page_limits : Limits
page_limits = limits 256 512

abbrev pub card_limits : Limits
card_limits = limits 64 96

-- settings with other limits
abbrev pub with_limits : Limits → Settings → Settings
with_limits l set = record { limits = l; strict = set.strict; accents = set.accents }

-- the settings of the exercise pages, and of whoever names none; those of the flash cards
abbrev pub pages : Settings
pages = record { limits = page_limits; strict = false; accents = false }

abbrev pub cards : Settings
cards = with_limits card_limits pages

-- the limit of a template, and that of an input: the caller's own, and never more than the greatest
unfoldable pub template_limit : Settings → ℕ
template_limit set = min set.limits.template page_limits.template

unfoldable pub input_limit : Settings → ℕ
input_limit set = min set.limits.input page_limits.input

-- the name that unfolds both, for worked examples
unfoldable pub limits_compute : ℕ
unfolding template_limit input_limit
limits_compute = 0

-- the two callers; limits of 300 and 100 bytes are those of 256 and 100
pub worked
    : (template_limit pages ≡ 256) × (input_limit pages ≡ 512)
    × (template_limit cards ≡ 64) × (input_limit cards ≡ 96)
    × (template_limit (with_limits (limits 300 100) pages) ≡ 256) × (input_limit (with_limits (limits 300 100) pages) ≡ 100)
unfolding limits_compute
worked = (refl, refl, refl, refl, refl, refl)
