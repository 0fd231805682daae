-- Every record is that of an answer in range, or of a refusal by its number. Assumes nothing.
-- `parts_recorded`: so is the parts record of an input by any nodes. `template_recorded`: the same by a template.
-- `instant_recorded`, `day_recorded`: so is the value record of such an answer's instant, and of its day.
-- `parts_held`: the parts record of a moment holds all of its parts.
use Rattle.std.specs.Prelude.{Err, None, Ok, Option, Result, Some}
use mathlib.Core.Path.{◌≡◌, refl, sym, ap, subst}
use mathlib.Core.Bool.{Bool}
use mathlib.Core.List.{List, [], ◌∷◌, ◌++◌}
use Prim.Native.Nat.{ℕ, zero-le}
use native.Mathlib.Omega.{arith}
use lib.IntN.{ℤ, pos, nat_abs}
use Rattle.base_settings.specs.declared.Settings.{Settings}
use Rattle.moment_parts.specs.Parts.{parts_by, parts_of}
use Rattle.moment_parts.specs.Ranges.{Answered, InRange, Within}
use Rattle.moment_parts.specs.declared.Parts.{Parts}
use Rattle.moment_parts.proofs.Ranges.{answered, parts_by_answered}
use Rattle.moment_instants.specs.ByTemplate.{instant_by, day_by}
use Rattle.moment_instants.specs.Ranges.{InstantAnswered, DayAnswered}
use Rattle.moment_instants.proofs.Ranges.{instant_answered, day_answered}
use Rattle.sorbilgan_records.specs.Records.{offset_entries, parts_record, instant_record, day_record}
use Rattle.sorbilgan_records.specs.Ranges.{entry, held, offset_held, PartsRecorded, InstantRecorded, DayRecorded}
use Rattle.moment_parts.specs.declared.Unread.{Unread}
use Rattle.moment_instants.specs.declared.epoch.Undated.{Undated}

-- the entries of an offset, and the marks after them
abbrev last_entries : Option ℤ → ℕ → List ℤ
last_entries o marks = offset_entries o ++ pos marks ∷ []

record LastHeld (o : Option ℤ) (marks : ℕ) (r : List ℤ) : Type 0 where
  zoned : Within 0 1 (entry r 0)
  no_offset : entry r 0 ≡ pos 0 → entry r 1 ≡ pos 0
  offset : offset_held (entry r 0) (entry r 1) ≡ o
  marks_are : entry r 2 ≡ pos marks

last_held : (o : Option ℤ) (marks : ℕ) → LastHeld o marks (last_entries o marks)
last_held None marks = record {
  zoned = record { at = 0; is = refl; from = zero-le; to = omega arith };
  no_offset = λ e. refl;
  offset = refl;
  marks_are = refl;
}
last_held (Some z) marks = record {
  zoned = record { at = 1; is = refl; from = zero-le; to = omega arith };
  no_offset = λ e. absurd (let same : ◌≡◌ {A = ℕ} 1 0 = ap nat_abs e in omega arith);
  offset = refl;
  marks_are = refl;
}

pub parts_held : (p : Parts) → held (parts_record (Ok p)) ≡ p
unfolding parts_record
parts_held p =
    let last = last_held p.offset p.marks in
    λ i. record {
      year = p.year;
      month = p.month;
      day = p.day;
      hour = p.hour;
      minute = p.minute;
      second = p.second;
      micros = p.micros;
      precision = p.precision;
      offset = last.offset i;
      marks = nat_abs (last.marks_are i);
    }

module _ (strict : Bool) where
  -- an answer in range has a record in range
  in_range_recorded : (a : Result Parts Unread) → Answered strict a → PartsRecorded strict a
  unfolding parts_record
  in_range_recorded (Err why) h = record { number = _; is = refl; known = h; nothing = refl }
  in_range_recorded (Ok p) h =
      let last = last_held p.offset p.marks in
      record {
        number = refl;
        zoned = last.zoned;
        no_offset = last.no_offset;
        marks = record { at = p.marks; is = last.marks_are; from = zero-le; to = omega (arith, h.marks) };
        parts = subst (InRange strict) (sym (parts_held p)) h;
      }

  -- and so have its instant and its day
  instant_in_range : (i : Result ℤ Undated) → InstantAnswered strict i → InstantRecorded strict i
  unfolding instant_record
  instant_in_range (Ok z) h = record { number = refl; value = h }
  instant_in_range (Err why) h = record { number = _; is = refl; known = h; nothing = refl }

  day_in_range : (d : Result ℤ Undated) → DayAnswered strict d → DayRecorded strict d
  unfolding day_record
  day_in_range (Ok z) h = record { number = refl; value = h }
  day_in_range (Err why) h = record { number = _; is = refl; known = h; nothing = refl }

  pub instant_recorded : (a : Result Parts Unread) → Answered strict a → InstantRecorded strict (instant_by a)
  instant_recorded a h = instant_in_range (instant_by a) (instant_answered strict a h)

  pub day_recorded : (a : Result Parts Unread) → Answered strict a → DayRecorded strict (day_by a)
  day_recorded a h = day_in_range (day_by a) (day_answered strict a h)

-- by any nodes, and by a template
pub parts_recorded : (set : Settings) (ns : _) (t s : List ℕ) → PartsRecorded set.strict (parts_by set ns t s)
parts_recorded set ns t s = in_range_recorded set.strict (parts_by set ns t s) (parts_by_answered set ns t s)

pub template_recorded : (set : Settings) (t s : List ℕ) → PartsRecorded set.strict (parts_of set t s)
template_recorded set t s = in_range_recorded set.strict (parts_of set t s) (answered set t s)
