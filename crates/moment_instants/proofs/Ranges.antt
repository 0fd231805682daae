-- Every instant and every day of an answer is in range, or refused by its number. Assumes nothing.
-- `instant_answered`: the instant of any answer is no end of 64 bits, or it is refused by the answer's number or by 17.
-- `day_answered`: the day of any answer is no end of 32 bits, or it is refused by the answer's number or by 18.
use Rattle.std.specs.Prelude.{Err, None, Ok, Option, Result, Some}
use mathlib.Core.Path.{◌≡◌, refl, ◌∙◌, sym}
use mathlib.Core.Bool.{Bool, false, not, ◌&&◌, ◌||◌}
use mathlib.Core.Logic.{inl, inr}
use Prim.Native.Nat.{◌+◌, ◌-◌, ◌/◌, ◌^◌}
use native.Mathlib.Omega.{arith}
use borrow.Author.Tests.{lt-ltb, ltb-false, not-true}
use lib.Dec.{ltb}
use lib.IntN.{ℤ, pos, negsuc, nat_abs, ◌+ℤ◌, ◌-ℤ◌, ◌*ℤ◌}
use lib.Signed.{lt_z}
use Rattle.base_notation.proofs.Cases.{by_if, both}
use Rattle.calendar_gregorian.specs.Civil.{days_from_civil}
use Rattle.moment_parts.specs.Ranges.{Answered}
use Rattle.moment_parts.specs.declared.Parts.{Parts}
use Rattle.moment_instants.specs.ByTemplate.{instant_by, day_by}
use Rattle.moment_instants.specs.Instant.{fits64, finite, within, seconds_of, wall_of, less_offset, epoch2000, away, rounded_to, then_rounded, then_offset, instant_of, day_of}
use Rattle.moment_instants.specs.Ranges.{Finite64, InstantAnswered, DayAnswered}
use Rattle.moment_instants.specs.Report.{undated_report}
use Rattle.moment_instants.specs.declared.epoch.Undated.TheVariants.{InstantRange, DateRange}
use Rattle.moment_instants.proofs.Range.{first, last, finite_is}
use Rattle.moment_parts.specs.declared.Unread.{Unread}
use Rattle.moment_instants.specs.declared.epoch.Undated.{Undated}

-- refused as out of range: by 17, and by 18
out : (strict : Bool) → InstantAnswered strict (Err InstantRange)
unfolding undated_report
out strict = inr refl

no_day : (strict : Bool) → DayAnswered strict (Err DateRange)
unfolding undated_report
no_day strict = inr refl

-- between the numbers next to the ends
off_ends : (z : ℤ) → lt_z last z ≡ false → lt_z z first ≡ false → Finite64 z
off_ends (pos n) h k = record { above = refl; below = lt-ltb n 9223372036854775807 (omega (arith, ltb-false 9223372036854775806 n h)) }
off_ends (negsuc n) h k = record { above = lt-ltb n 9223372036854775807 (omega (arith, ltb-false 9223372036854775806 n k)); below = refl }

module _ (strict : Bool) where
  -- what is neither end is an instant, all else is refused
  within_answered : (z : ℤ) → InstantAnswered strict (within z)
  within_answered z =
      by_if (InstantAnswered strict) (finite z) (Ok z) (Err InstantRange)
      (λ e. let tests = both (not (lt_z last z)) _ (sym (finite_is z) ∙ e) in off_ends z (not-true _ tests.0) (not-true _ tests.1)) (λ e. out strict)

  -- each step of the definition, on what the one before left
  wall_answered : (p : Parts) → InstantAnswered strict (wall_of p)
  unfolding wall_of
  wall_answered p =
      let whole = seconds_of p *ℤ pos 1000000 in
      by_if (InstantAnswered strict) (fits64 whole) _ _ (λ e. within_answered (whole +ℤ p.micros)) (λ e. out strict)

  offset_answered : (offset : Option ℤ) (wall : ℤ) → InstantAnswered strict (less_offset offset wall)
  unfolding less_offset
  offset_answered None wall = within_answered wall
  offset_answered (Some seconds) wall = within_answered (wall -ℤ seconds *ℤ pos 1000000)

  -- what is not rounded is handed on
  rounded_answered : (precision z : ℤ) → Finite64 z → InstantAnswered strict (rounded_to precision z)
  unfolding rounded_to
  rounded_answered precision z h =
      let scale = 10 ^ (6 - nat_abs precision) in
      let count = z -ℤ epoch2000 in
      by_if (InstantAnswered strict) (lt_z precision (pos 1) || lt_z (pos 5) precision) _ _ (λ e. h)
      (λ e. by_if (InstantAnswered strict) (fits64 count && ltb (nat_abs count + scale / 2) (2 ^ 63)) _ _ (λ e. within_answered (away scale count +ℤ epoch2000)) (λ e. out strict))

  then_rounded_lem : (precision : ℤ) (i : Result ℤ Undated) → InstantAnswered strict i → InstantAnswered strict (then_rounded precision i)
  then_rounded_lem precision (Err why) h = h
  then_rounded_lem precision (Ok z) h = rounded_answered precision z h

  then_offset_lem : (p : Parts) (i : Result ℤ Undated) → InstantAnswered strict i → InstantAnswered strict (then_offset p i)
  then_offset_lem p (Err why) h = h
  then_offset_lem p (Ok wall) h = then_rounded_lem p.precision (less_offset p.offset wall) (offset_answered p.offset wall)

  -- for all answers that are in range or refused by their number
  pub instant_answered : (a : Result Parts Unread) → Answered strict a → InstantAnswered strict (instant_by a)
  unfolding instant_of undated_report
  instant_answered (Err why) h = inl h
  instant_answered (Ok p) h = then_offset_lem p (wall_of p) (wall_answered p)

  pub day_answered : (a : Result Parts Unread) → Answered strict a → DayAnswered strict (day_by a)
  unfolding day_of undated_report
  day_answered (Err why) h = inl h
  day_answered (Ok p) h =
      let n = days_from_civil p.year p.month p.day in
      by_if (DayAnswered strict) (lt_z (negsuc 2147483647) n && lt_z n (pos 2147483647)) _ _
      (λ e. let tests = both (lt_z (negsuc 2147483647) n) _ e in record { above = tests.0; below = tests.1 }) (λ e. no_day strict)
