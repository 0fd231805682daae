-- The time of day, its fraction and the offset, from the fields that were read.
use Rattle.std.specs.Prelude.{◌≡◌, refl, Bool, not, ◌&&◌, ◌||◌, ℕ, ℤ, pos, negsuc, neg_ℤ, ◌+ℤ◌, ◌*ℤ◌, Err, None, Ok, Option, Result, Some}
use Rattle.std.specs.Int.Signed.{lt_z, quot_z, rem_z}
use Rattle.base_notation.specs.Choice.{when◌then◌else◌}
use Rattle.base_refusals.specs.declared.Refusal.TheVariants.{HourOfTwelve, OffsetRange}
use Rattle.read_fields.specs.Fields.{get, put, no_fields, is_zero, eq_ℤ, hh, pm, mi, ss, ssss, ms, us, clock, tzsign, tzh, tzm}
use Rattle.read_fields.specs.declared.Fields.{Fields}
use Rattle.base_wrapping.specs.Wrap.{wrap32, ◌⊕◌}
use Rattle.moment_sums.specs.Checked.{◌times◌}
use Rattle.moment_sums.specs.Within.{below}
use Rattle.base_refusals.specs.declared.Refusal.{Refusal}

-- a field, or another number where it is absent
infixr 30 ◌or◌
abbrev pub ◌or◌ : ℤ → ℤ → ℤ
z or other = when is_zero z then other else z

-- hour, minute and second: their own fields, or by the second of the day
unfoldable pub hour_of : Fields → ℤ
hour_of f = get f hh or quot_z (get f ssss) (pos 3600)

unfoldable pub minute_of : Fields → ℤ
minute_of f = get f mi or quot_z (rem_z (get f ssss) (pos 3600)) (pos 60)

unfoldable pub second_of : Fields → ℤ
second_of f = get f ss or rem_z (rem_z (get f ssss) (pos 3600)) (pos 60)

-- an hour of the 12-hour clock, in the second half of the day if it is PM: 12 AM is 0, 12 PM is 12
unfoldable pub hour_of_twelve : ℤ → ℤ → Result ℤ Refusal
hour_of_twelve is_pm h =
    when lt_z h (pos 1) || lt_z (pos 12) h then Err (HourOfTwelve h)
    else when not (is_zero is_pm) && lt_z h (pos 12) then Ok (h +ℤ pos 12)
    else when is_zero is_pm && eq_ℤ h (pos 12) then Ok (pos 0)
    else Ok h

unfoldable pub clock_hour : Fields → Result ℤ Refusal
clock_hour f = when eq_ℤ (get f clock) (pos 12) then hour_of_twelve (get f pm) (hour_of f) else Ok (hour_of f)

-- microseconds: milliseconds and microseconds together
abbrev pub with_micros : Result ℤ Refusal → ℤ → Result ℤ Refusal
with_micros (Ok whole) n = Ok (whole ⊕ n)
with_micros (Err why) n = Err why

unfoldable pub micros_of : Fields → Result ℤ Refusal
micros_of f = with_micros (Ok (get f ms) times 1000) (get f us)

-- hour, minute, second and fraction are in range
unfoldable pub time_in_range : ℤ → ℤ → ℤ → ℤ → Bool
time_in_range h m s us = below h 24 && below m 60 && below s 60 && below us 1000000

-- the offset in seconds: hours and minutes joined, then negated if the sign is minus
unfoldable pub east_of : Fields → ℤ
east_of f =
    let east = (get f tzh *ℤ pos 60 +ℤ get f tzm) *ℤ pos 60 in
    when lt_z (get f tzsign) (pos 0) then neg_ℤ east else east

-- the offset is given where a sign was set
unfoldable pub offset_of : Fields → Option ℤ
offset_of f = when is_zero (get f tzsign) then None else Some (east_of f)

-- its hours are 0 to 15 and its minutes 0 to 59, or it is absent
unfoldable pub offset_in_range : Fields → Bool
offset_in_range f = is_zero (get f tzsign) || below (get f tzh) 16 && below (get f tzm) 60

-- the offset, refused out of its range
unfoldable pub checked_offset : Fields → Result (Option ℤ) Refusal
checked_offset f = when offset_in_range f then Ok (offset_of f) else Err OffsetRange

-- unfolds all that a time and an offset are computed by, for worked examples
unfoldable pub time_computes : ℕ
unfolding hour_of minute_of second_of hour_of_twelve clock_hour micros_of time_in_range east_of offset_of offset_in_range checked_offset wrap32
time_computes = 0

-- 12 AM, 12 PM, 1 PM and 0 on the 12-hour clock
pub clocks
    : (hour_of_twelve (pos 0) (pos 12) ≡ Ok (pos 0)) × (hour_of_twelve (pos 1) (pos 12) ≡ Ok (pos 12)) × (hour_of_twelve (pos 1) (pos 1) ≡ Ok (pos 13))
    × (hour_of_twelve (pos 0) (pos 0) ≡ Err (HourOfTwelve (pos 0)))
unfolding time_computes
clocks = (refl, refl, refl, refl)

-- -5:30 is -(5 hours and 30 minutes)
pub joined : east_of (put (put (put no_fields tzsign (negsuc 0)) tzh (pos 5)) tzm (pos 30)) ≡ negsuc 19799
unfolding time_computes
joined = refl
