-- The instant and the day of an input by a template, as to_timestamp and to_date give them.
use Rattle.std.specs.Prelude.{◌≡◌, refl, List, ℕ, Err, Ok, Result, ℤ}
use Rattle.base_settings.specs.declared.Settings.{Settings}
use Rattle.base_refusals.specs.declared.Refusal.TheVariants.{FieldOverflow}
use Rattle.moment_instants.specs.Instant.{day_of, instant_of}
use Rattle.moment_instants.specs.declared.epoch.Undated.TheVariants.{Unread as NoParts}
use Rattle.moment_parts.specs.Parts.{parts_of, refused_by}
use Rattle.moment_parts.specs.declared.Unread.TheVariants.{By, NoSuchDay}
use Rattle.moment_parts.specs.declared.Parts.{Parts}
use Rattle.moment_parts.specs.declared.Unread.{Unread}
use Rattle.moment_instants.specs.declared.epoch.Undated.{Undated}

-- the instant and the day of an answer
abbrev pub instant_by : Result Parts Unread → Result ℤ Undated
instant_by (Err why) = Err (NoParts why)
instant_by (Ok p) = instant_of p

abbrev pub day_by : Result Parts Unread → Result ℤ Undated
day_by (Err why) = Err (NoParts why)
day_by (Ok p) = day_of p

-- the instant and the day of an input by a template, for a caller with settings
unfoldable pub timestamp_of : Settings → List ℕ → List ℕ → Result ℤ Undated
timestamp_of set t s = instant_by (parts_of set t s)

unfoldable pub date_of : Settings → List ℕ → List ℕ → Result ℤ Undated
date_of set t s = day_by (parts_of set t s)

-- what is not read has neither, for the same cause
pub worked
    : (instant_by (refused_by FieldOverflow) ≡ Err (NoParts (By FieldOverflow))) × (day_by (Err NoSuchDay) ≡ Err (NoParts NoSuchDay))
worked = (refl, refl)
