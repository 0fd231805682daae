-- The instant and the day of a moment's parts, counted from 1970 as to_timestamp and to_date count them.
use Rattle.std.specs.Prelude.{◌≡◌, refl, Bool, ◌&&◌, ◌||◌, ℕ, ◌+◌, ◌-◌, ◌*◌, ◌/◌, ◌^◌, ltb, ℤ, pos, negsuc, nat_abs, neg_ℤ, ◌+ℤ◌, ◌-ℤ◌, ◌*ℤ◌, Err, None, Ok, Option, Result, Some}
use Rattle.std.specs.Int.Signed.{lt_z, mag}
use Rattle.calendar_gregorian.specs.Civil.{civil_computes, days_from_civil}
use Rattle.base_notation.specs.Choice.{when◌then◌else◌}
use Rattle.moment_date.specs.Dates.{all_bits}
use Rattle.moment_parts.specs.declared.Parts.{Parts}
use Rattle.moment_instants.specs.declared.epoch.Undated.TheVariants.{InstantRange, DateRange}
use Rattle.moment_instants.specs.declared.epoch.Undated.{Undated}

-- the number is one of 64 bits
abbrev pub fits64 : ℤ → Bool
fits64 z = ltb (mag z) (2 ^ 63)

-- and neither end of their range: the ends mean the infinities
abbrev pub finite : ℤ → Bool
finite z = fits64 (z +ℤ pos 1) && fits64 (z -ℤ pos 1)

-- the instant that a number is, if it is one
abbrev pub within : ℤ → Result ℤ Undated
within z = when finite z then Ok z else Err InstantRange

-- the second of the wall clock, and its microseconds: seconds × 1,000,000 fit 64 bits before the fraction is added
unfoldable pub seconds_of : Parts → ℤ
seconds_of p =
    days_from_civil p.year p.month p.day *ℤ pos 86400 +ℤ (p.hour *ℤ pos 3600 +ℤ p.minute *ℤ pos 60 +ℤ p.second)

unfoldable pub wall_of : Parts → Result ℤ Undated
wall_of p =
    let whole = seconds_of p *ℤ pos 1000000 in
    when fits64 whole then within (whole +ℤ p.micros) else Err InstantRange

-- the offset is subtracted; without one the wall clock is read as UTC
unfoldable pub less_offset : Option ℤ → ℤ → Result ℤ Undated
less_offset None wall = within wall
less_offset (Some seconds) wall = within (wall -ℤ seconds *ℤ pos 1000000)

-- January 1 of 2000, from which PostgreSQL counts
abbrev pub epoch2000 : ℤ
epoch2000 = pos 946684800000000

-- a magnitude rounded to a multiple, half upwards
abbrev pub rounded : ℕ → ℕ → ℕ
rounded scale n = (n + scale / 2) / scale * scale

-- a count from 2000 rounded to a multiple, half away from 2000
abbrev pub away : ℕ → ℤ → ℤ
away scale (pos n) = pos (rounded scale n)
away scale (negsuc n) = neg_ℤ (pos (rounded scale (n + 1)))

-- to one to five digits of a second; the count from 2000 fits 64 bits, also with the half added that rounds it
unfoldable pub rounded_to : ℤ → ℤ → Result ℤ Undated
rounded_to precision z =
    let scale = 10 ^ (6 - nat_abs precision) in
    let count = z -ℤ epoch2000 in
    when lt_z precision (pos 1) || lt_z (pos 5) precision then Ok z
    else when fits64 count && ltb (nat_abs count + scale / 2) (2 ^ 63) then within (away scale count +ℤ epoch2000)
    else Err InstantRange

-- what follows once the exact instant is known, and once the wall clock is
abbrev pub then_rounded : ℤ → Result ℤ Undated → Result ℤ Undated
then_rounded precision (Err why) = Err why
then_rounded precision (Ok z) = rounded_to precision z

abbrev pub then_offset : Parts → Result ℤ Undated → Result ℤ Undated
then_offset p (Err why) = Err why
then_offset p (Ok wall) = then_rounded p.precision (less_offset p.offset wall)

-- the instant of a moment's parts
unfoldable pub instant_of : Parts → Result ℤ Undated
instant_of p = then_offset p (wall_of p)

-- the day of a moment's parts, from -2147483647 to 2147483646
unfoldable pub day_of : Parts → Result ℤ Undated
day_of p =
    let n = days_from_civil p.year p.month p.day in
    when lt_z (negsuc 2147483647) n && lt_z n (pos 2147483647) then Ok n else Err DateRange

-- parts at midnight, with all three marks
abbrev pub parts : ℤ → ℕ → ℕ → ℕ → ℕ → Option ℤ → Parts
parts y m d us precision offset =
    record { year = y; month = pos m; day = pos d; hour = pos 0; minute = pos 0; second = pos 0; micros = pos us; precision = pos precision; offset = offset; marks = all_bits }

-- January 1 of 2000, one hour east of UTC; half a second rounded away from 2000 on both sides
pub worked
    : (instant_of (parts (pos 2000) 1 1 0 0 (Some (pos 3600))) ≡ Ok (pos 946681200000000))
    × (instant_of (parts (pos 2000) 1 1 50000 1 None) ≡ Ok (pos 946684800100000))
    × (instant_of (parts (pos 1999) 12 31 50000 1 None) ≡ Ok (pos 946598400000000))
unfolding instant_of wall_of seconds_of less_offset rounded_to civil_computes
worked = (refl, refl, refl)
