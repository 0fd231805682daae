-- Why there is no instant or no day names no pattern, or one of the template's. Assumes nothing.
-- `instant_own`, `day_own`: so it is by any nodes.
-- `timestamp_own`, `date_own`: so it is by a template, with its own nodes.
use Rattle.std.specs.Prelude.{Err, None, Ok, Option, Result, Some}
use mathlib.Core.Path.{◌≡◌, refl, subst}
use mathlib.Core.Bool.{◌&&◌, ◌||◌}
use mathlib.Core.List.{List}
use mathlib.Core.Logic.{inl}
use Prim.Native.Nat.{ℕ, ◌+◌, ◌-◌, ◌/◌, ◌^◌}
use lib.Dec.{ltb}
use lib.IntN.{ℤ, pos, negsuc, nat_abs, ◌+ℤ◌, ◌-ℤ◌, ◌*ℤ◌}
use lib.Signed.{lt_z}
use Rattle.base_notation.proofs.Cases.{by_if}
use Rattle.base_settings.specs.declared.Settings.{Settings}
use Rattle.base_refusals.specs.Report.{no_pattern}
use Rattle.calendar_gregorian.specs.Civil.{days_from_civil}
use Rattle.template_nodes.specs.Template.{nodes_by}
use Rattle.template_nodes.specs.declared.Node.{Node}
use Rattle.moment_parts.specs.Parts.{parts_by, parts_of}
use Rattle.moment_parts.specs.Patterns.{NoneOrIn, NamesOwn}
use Rattle.moment_parts.specs.declared.Parts.{Parts}
use Rattle.moment_parts.proofs.Patterns.{named_own, named_in_template}
use Rattle.moment_instants.specs.ByTemplate.{instant_by, day_by, timestamp_of, date_of}
use Rattle.moment_instants.specs.Instant.{fits64, finite, within, seconds_of, wall_of, less_offset, epoch2000, away, rounded_to, then_rounded, then_offset, instant_of, day_of}
use Rattle.moment_instants.specs.Report.{undated_report}
use Rattle.moment_instants.specs.declared.epoch.Undated.{Undated}
use Rattle.moment_parts.specs.declared.Unread.{Unread}

-- P holds of the pattern that a refusal names
abbrev InstantNames : (ℕ → Type 0) → Result ℤ Undated → Type 0
InstantNames P (Ok z) = Unit {0}
InstantNames P (Err why) = P (undated_report why).pattern

abbrev DayNames : (ℕ → Type 0) → Result ℤ Undated → Type 0
DayNames P (Ok z) = Unit {0}
DayNames P (Err why) = P (undated_report why).pattern

-- the instant and the day of a moment's parts: where P holds of `no_pattern`, it holds of the pattern that a refusal
-- names
module _ (P : ℕ → Type 0) (none : P no_pattern) where
  within_unnamed : (z : ℤ) → InstantNames P (within z)
  unfolding undated_report
  within_unnamed z = by_if (InstantNames P) (finite z) _ _ (λ e. tt) (λ e. none)

  wall_unnamed : (p : Parts) → InstantNames P (wall_of p)
  unfolding wall_of undated_report
  wall_unnamed p =
      let whole = seconds_of p *ℤ pos 1000000 in
      by_if (InstantNames P) (fits64 whole) _ _ (λ e. within_unnamed (whole +ℤ p.micros)) (λ e. none)

  less_unnamed : (offset : Option ℤ) (wall : ℤ) → InstantNames P (less_offset offset wall)
  unfolding less_offset
  less_unnamed None wall = within_unnamed wall
  less_unnamed (Some seconds) wall = within_unnamed (wall -ℤ seconds *ℤ pos 1000000)

  rounded_unnamed : (precision z : ℤ) → InstantNames P (rounded_to precision z)
  unfolding rounded_to undated_report
  rounded_unnamed precision z =
      let scale = 10 ^ (6 - nat_abs precision) in
      let count = z -ℤ epoch2000 in
      by_if (InstantNames P) (lt_z precision (pos 1) || lt_z (pos 5) precision) _ _ (λ e. tt)
      (λ e. by_if (InstantNames P) (fits64 count && ltb (nat_abs count + scale / 2) (2 ^ 63)) _ _ (λ e. within_unnamed (away scale count +ℤ epoch2000)) (λ e. none))

  then_rounded_lem : (precision : ℤ) (a : Result ℤ Undated) → InstantNames P a → InstantNames P (then_rounded precision a)
  then_rounded_lem precision (Err why) named = named
  then_rounded_lem precision (Ok z) named = rounded_unnamed precision z

  then_offset_lem : (p : Parts) (a : Result ℤ Undated) → InstantNames P a → InstantNames P (then_offset p a)
  then_offset_lem p (Err why) named = named
  then_offset_lem p (Ok wall) named = then_rounded_lem p.precision (less_offset p.offset wall) (less_unnamed p.offset wall)

  instant_unnamed : (p : Parts) → InstantNames P (instant_of p)
  unfolding instant_of
  instant_unnamed p = then_offset_lem p (wall_of p) (wall_unnamed p)

  day_unnamed : (p : Parts) → DayNames P (day_of p)
  unfolding day_of undated_report
  day_unnamed p =
      let n = days_from_civil p.year p.month p.day in
      by_if (DayNames P) (lt_z (negsuc 2147483647) n && lt_z n (pos 2147483647)) _ _ (λ e. tt) (λ e. none)

-- those of an answer: its refusal is kept
module _ (ns : List Node) where
  answer_instant : (a : Result Parts Unread) → NamesOwn ns a → InstantNames (NoneOrIn ns) (instant_by a)
  unfolding undated_report
  answer_instant (Err why) named = named
  answer_instant (Ok p) named = instant_unnamed (NoneOrIn ns) (inl refl) p

  answer_day : (a : Result Parts Unread) → NamesOwn ns a → DayNames (NoneOrIn ns) (day_by a)
  unfolding undated_report
  answer_day (Err why) named = named
  answer_day (Ok p) named = day_unnamed (NoneOrIn ns) (inl refl) p

-- by any nodes, and by a template
module _ (set : Settings) (t s : List ℕ) {why : Undated} where
  pub instant_own : (ns : List Node) → instant_by (parts_by set ns t s) ≡ Err why → NoneOrIn ns (undated_report why).pattern
  instant_own ns e = subst (InstantNames (NoneOrIn ns)) e (answer_instant ns (parts_by set ns t s) (named_own set ns t s))

  pub day_own : (ns : List Node) → day_by (parts_by set ns t s) ≡ Err why → NoneOrIn ns (undated_report why).pattern
  day_own ns e = subst (DayNames (NoneOrIn ns)) e (answer_day ns (parts_by set ns t s) (named_own set ns t s))

  pub timestamp_own : timestamp_of set t s ≡ Err why → NoneOrIn (nodes_by set.accents t) (undated_report why).pattern
  unfolding timestamp_of
  timestamp_own e = subst (InstantNames (NoneOrIn (nodes_by set.accents t))) e (answer_instant (nodes_by set.accents t) (parts_of set t s) (named_in_template set t s))

  pub date_own : date_of set t s ≡ Err why → NoneOrIn (nodes_by set.accents t) (undated_report why).pattern
  unfolding date_of
  date_own e = subst (DayNames (NoneOrIn (nodes_by set.accents t))) e (answer_day (nodes_by set.accents t) (parts_of set t s) (named_in_template set t s))
