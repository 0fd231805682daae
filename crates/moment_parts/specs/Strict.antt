-- What the strict switch changes: a day that its month never has is refused, and nothing else.
use Rattle.std.specs.Prelude.{◌≡◌, refl, Bool, true, false, List, ◌⊎◌, ℕ, ◌≤◌, ℤ, Err, Ok, Result}
use Rattle.base_notation.specs.Choice.{when◌then◌else◌}
use Rattle.base_settings.specs.Strict.{with_strict}
use Rattle.base_settings.specs.declared.Settings.{Settings}
use Rattle.base_refusals.specs.declared.Refusal.TheVariants.{FieldOverflow, OffsetRange}
use Rattle.calendar_gregorian.specs.Civil.{length_of}
use Rattle.template_nodes.specs.declared.Node.{Node}
use Rattle.moment_date.specs.Dates.{no_such_day}
use Rattle.moment_parts.specs.Parts.{parts_by, parts_of}
use Rattle.moment_parts.specs.Ranges.{midnight}
use Rattle.moment_parts.specs.declared.Unread.TheVariants.{By, NoSuchDay}
use Rattle.moment_parts.specs.declared.Parts.{Parts}
use Rattle.moment_parts.specs.declared.Unread.{Unread}

-- what the strict answer a is where the other one is given: a moment stays, unless its month never has its day; a
-- refusal stays, but 15 and 16 may come after such a day
abbrev pub Strictly : (other a : Result Parts Unread) → Type 0
Strictly (Ok p) a = a ≡ (when no_such_day p.marks p.month p.day then Err NoSuchDay else Ok p)
Strictly (Err why) a =
    (a ≡ Err why) ⊎ ((a ≡ Err NoSuchDay) × ((why ≡ By FieldOverflow) ⊎ (why ≡ By OffsetRange)))

-- without a year February 30 is refused, and February 29 stays; what has no mark of its month stays too
pub worked
    : Strictly (Ok (midnight 0 2 30 6)) (Err NoSuchDay) × Strictly (Ok (midnight 0 2 29 6)) (Ok (midnight 0 2 29 6))
    × Strictly (Ok (midnight 0 1 31 4)) (Ok (midnight 0 1 31 4))
unfolding no_such_day
worked = (refl, refl, refl)

-- so it is by any nodes and by a template, for every caller; and no year gives a month more days than a leap year does
pub record StrictAlone : Type 0 where
  pub parts_by_nodes : (set : Settings) (ns : List Node) (t s : List ℕ) → Strictly (parts_by (with_strict false set) ns t s) (parts_by (with_strict true set) ns t s)
  pub parts : (set : Settings) (t s : List ℕ) → Strictly (parts_of (with_strict false set) t s) (parts_of (with_strict true set) t s)
  pub longest : (in_leap : Bool) (m : ℤ) → length_of in_leap m ≤ length_of true m
