-- The fields that one date group, one time group and US set; all others are absent, which is 0.
-- `DateGroup`, `TimeGroup`: the groups. `date_values`, `time_values`: what each sets at a moment.
-- `fields_of`: all 24 fields. `Same`: two records of fields agree in each of them.
use mathlib.Core.Path.{◌≡◌, refl}
use mathlib.Core.List.{[], ◌∷◌}
use Prim.Native.Nat.{ℕ, ◌+◌, ◌*◌, ◌%◌, ◌<◌}
use lib.Dec.{ltb}
use lib.IntN.{pos}
use Rattle.base_notation.specs.Choice.{when◌then◌else◌}
use Rattle.calendar_gregorian.specs.Gregorian.{day_number, day_of_year}
use Rattle.calendar_gregorian.specs.IsoWeek.{weeks_compute, iso_week, iso_weekday, iso_year}
use Rattle.template_patterns.specs.Patterns as P
use Rattle.read_fields.specs.Fields.{get}
use Rattle.read_fields.specs.declared.Fields.{Fields}
use Rattle.write_pieces.specs.Pieces.{of12}

-- YYYY MM DD, YYYY DDD, and IYYY IW ID
pub data DateGroup : Type 0 where
  by_month : DateGroup
  by_day : DateGroup
  by_week : DateGroup

-- HH24 MI SS, HH12 MI SS with a marker, and SSSSS
pub data TimeGroup : Type 0 where
  of_24 : TimeGroup
  of_12 : TimeGroup
  by_second : TimeGroup

-- the fields that date groups set
pub record DateValues : Type 0 where
  pub mode : ℕ
  pub d : ℕ
  pub dd : ℕ
  pub ddd : ℕ
  pub mm : ℕ
  pub year : ℕ
  pub ww : ℕ

-- and those that time groups set
pub record TimeValues : Type 0 where
  pub hh : ℕ
  pub pm : ℕ
  pub mi : ℕ
  pub ss : ℕ
  pub ssss : ℕ
  pub clock : ℕ

-- what a date group sets at a date; of a weekday 1 is Sunday, 2 Monday
abbrev pub date_values : DateGroup → ℕ → ℕ → ℕ → DateValues
date_values by_month y mo day = record { mode = P.gregorian; d = 0; dd = day; ddd = 0; mm = mo; year = y; ww = 0 }
date_values by_day y mo day = record { mode = P.gregorian; d = 0; dd = 0; ddd = day_of_year y mo day; mm = 0; year = y; ww = 0 }
date_values by_week y mo day = record {
  mode = P.iso_week;
  d = iso_weekday (day_number y mo day) % 7 + 1;
  dd = 0;
  ddd = 0;
  mm = 0;
  year = iso_year y mo day;
  ww = iso_week y mo day;
}

-- what a time group sets at a time; of a half of the day 0 is the morning, 1 the afternoon
abbrev pub time_values : TimeGroup → ℕ → ℕ → ℕ → TimeValues
time_values of_24 h m s = record { hh = h; pm = 0; mi = m; ss = s; ssss = 0; clock = 0 }
time_values of_12 h m s = record { hh = of12 h; pm = when ltb h 12 then 0 else 1; mi = m; ss = s; ssss = 0; clock = 12 }
time_values by_second h m s = record { hh = 0; pm = 0; mi = 0; ss = 0; ssss = h * 3600 + m * 60 + s; clock = 0 }

-- by their numbers; a year was read with four digits
abbrev pub fields_of : DateValues → TimeValues → ℕ → Fields
fields_of a b us = record {
  values =
      pos a.mode
      ∷ pos b.hh
      ∷ pos b.pm
      ∷ pos b.mi
      ∷ pos b.ss
      ∷ pos b.ssss
      ∷ pos a.d
      ∷ pos a.dd
      ∷ pos a.ddd
      ∷ pos a.mm
      ∷ pos 0
      ∷ pos a.year
      ∷ pos 0
      ∷ pos a.ww
      ∷ pos 0
      ∷ pos 0
      ∷ pos 0
      ∷ pos us
      ∷ pos 4
      ∷ pos b.clock
      ∷ pos 0
      ∷ pos 0
      ∷ pos 0
      ∷ pos 0
      ∷ [];
}

-- each of the 24 fields of f is that of g
abbrev pub Same : Fields → Fields → Type 0
Same f g = (k : ℕ) → k < 24 → get f k ≡ get g k

-- Friday, January 1 of 2021, and 15:04:05 on either clock and as a second of the day
pub worked
    : (date_values by_week 2021 1 1 ≡ record { mode = 2; d = 6; dd = 0; ddd = 0; mm = 0; year = 2020; ww = 53 })
    × (time_values of_12 15 4 5 ≡ record { hh = 3; pm = 1; mi = 4; ss = 5; ssss = 0; clock = 12 })
    × (time_values by_second 15 4 5 ≡ record { hh = 0; pm = 0; mi = 0; ss = 0; ssss = 54245; clock = 0 })
unfolding weeks_compute
worked = (refl, refl, refl)
