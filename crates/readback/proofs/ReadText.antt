-- Reading back, first half: the text of a moment by a full template, and what reading it sets in the caller's mode.
-- Assumes nothing.
-- `full_is`: what the test of a full template says (`Full`).
-- `text_is_utf8`, `text_longer`: the text is UTF-8, and at most six bytes longer than the template.
-- `text_is_read`: reading it by the template accepts it, and sets exactly what the template's pieces set.
-- `fields_read`: what holds of what each date group sets with each time group and US holds of the fields that are read.
use Rattle.std.specs.Option.{is_none}
use Rattle.std.specs.Prelude.{None, Option, Some}
use mathlib.Core.Path.{◌≡◌, ◌∙◌, refl}
use mathlib.Core.Bool.{Bool, true, false≢true, ◌&&◌}
use mathlib.Core.List.{List, []}
use Prim.Native.Nat.{ℕ, ◌+◌, ◌≤◌}
use native.Mathlib.Omega.{arith}
use borrow.Author.Tests.{leb-true}
use lib.Dec.{leb}
use lib.ListN.{length}
use Rattle.base_notation.proofs.Cases.{both}
use Rattle.base_settings.specs.Limits.{template_limit}
use Rattle.base_settings.specs.declared.Settings.{Settings}
use Rattle.base_chars.specs.Utf8.{well_formed}
use Rattle.read_fields.specs.Fields.{no_fields}
use Rattle.read_input.specs.Reader.{read_all}
use Rattle.read_fields.specs.declared.Fields.{Fields}
use Rattle.template_nodes.specs.Template.{nodes_by, nodes_of}
use Rattle.template_nodes.specs.declared.Node.{Node}
use Rattle.write_text.specs.Full.{pieces, times, are_full, is_full}
use Rattle.write_pieces.specs.Moment.{moment}
use Rattle.readback.proofs.MomentFacts.{IsMoment}
use Rattle.write_pieces.specs.Pieces.{micros, month_name}
use Rattle.write_text.specs.Text.{nodes_text, text_of}
use Rattle.write_text.specs.Writer.{all_written, first_unwritten}
use Rattle.write_pieces.specs.declared.Moment.{Moment}
use Rattle.write_text.proofs.Modes.{pieces_in_both, text_in_both, unwritten_in_both}
use Rattle.readback.specs.ReadBack.{MarksJoined}
use Rattle.readback.proofs.Clear.{clear_nodes}
use Rattle.readback.proofs.FieldSettings.{filled_by, expected}
use Rattle.readback.proofs.Compatible.{together}
use Rattle.readback.proofs.Groups.{EachFull, Grouped, grouped, pieces_below, expected_same}
use Rattle.readback.proofs.Nodes.{good_nodes}
use Rattle.readback.proofs.Simulation.{Ends, simulated}
use Rattle.readback.proofs.Sound.{AllSound, sound_nodes}
use Rattle.readback.proofs.Spells.{AllSpelled, extra, spelled_length, spelled_utf8, text_spelled}

-- each date group goes with each time group, and their text is at most six bytes longer than the template
abbrev tested : List ℕ → Bool
tested all = together all && leb (extra all) 6

all_tested : EachFull (λ all. tested all ≡ true)
unfolding times
all_tested = (
  (refl, (refl, (refl, (refl, tt)))),
  ((refl, (refl, (refl, (refl, tt)))), ((refl, (refl, (refl, (refl, tt)))), ((refl, (refl, (refl, (refl, tt)))), ((refl, (refl, (refl, (refl, tt)))), tt)))),
)

none_expected : (m : Moment) → expected [] m ≡ no_fields
unfolding expected filled_by times
none_expected m = refl

pub record Full (set : Settings) (t : List ℕ) : Type 0 where
  pub short : length t ≤ template_limit set
  pub text : well_formed t ≡ true
  pub known : first_unwritten (nodes_of t) ≡ all_written
  pub full : are_full (pieces (nodes_of t)) ≡ true

none_is : (first : Option ℕ) → is_none first ≡ true → first ≡ None
none_is None e = refl
none_is (Some p) e = absurd (false≢true e)

pub full_is : (set : Settings) (t : List ℕ) → is_full set t ≡ true → Full set t
unfolding is_full
full_is set t e =
    let short = both (leb (length t) (template_limit set)) _ e in
    let text = both (well_formed t) _ short.1 in
    let known = both (is_none (first_unwritten (nodes_of t))) _ text.1 in
    record { short = leb-true _ _ short.0; text = text.0; known = none_is _ known.0; full = known.1 }

module _ (set : Settings) (t : List ℕ) (full_template : is_full set t ≡ true) (joined : MarksJoined set t) where
  checks : Full set t
  checks = full_is set t full_template

  -- the nodes of the caller's mode
  abbrev ns : List Node
  ns = nodes_by set.accents t

  sound : AllSound t ns
  sound = sound_nodes t ns (good_nodes set.accents t checks.text).0 (unwritten_in_both set.accents t ∙ checks.known)

  groups : Grouped (pieces ns)
  groups = grouped (pieces ns) (pieces_below t ns 0 sound) (rw (pieces_in_both set.accents t) checks.full)

  goes : (together groups.all ≡ true) × (leb (extra groups.all) 6 ≡ true)
  goes = both (together groups.all) _ (groups.pick (λ all. tested all ≡ true) all_tested)

  module _ {y mo d h mi s us : ℕ} (is : IsMoment y mo d h mi s us) where
    abbrev now : Moment
    now = moment y mo d h mi s us

    -- the text is that of these nodes, and spells them
    text_is : nodes_text t now ns ≡ text_of t now
    text_is = text_in_both t now set.accents

    spelled : AllSpelled t now ns (text_of t now)
    spelled = rw (← text_is) (text_spelled t now ns sound (clear_nodes t is set.accents joined sound))

    pub text_is_utf8 : well_formed (text_of t now) ≡ true
    text_is_utf8 = spelled_utf8 t is ns (text_of t now) spelled

    pub text_longer : length (text_of t now) ≤ length t + 6
    text_longer =
        let longer = spelled_length t is ns (text_of t now) spelled in
        let most = leb-true (extra groups.all) 6 goes.1 in
        omega (arith, longer, most, (good_nodes set.accents t checks.text).1, groups.as_often micros, groups.as_often month_name)

    -- what the template's pieces set is what its groups set
    by_groups : expected (pieces ns) now ≡ expected groups.all now
    by_groups = expected_same now (pieces ns) groups.all groups.as_often

    pub text_is_read : Ends (expected (pieces ns) now) (read_all t (text_of t now) ns)
    unfolding read_all times
    text_is_read =
        rw (by_groups, ← none_expected now)
        (simulated t (text_of t now) is groups.all goes.0 ns true _ 0 0 [] spelled (record { within = omega arith; is = refl }) tt
        (λ q. omega (arith, groups.as_often q)))

    pub fields_read : (P : Fields → Type 0) → EachFull (λ all. P (expected all now)) → P (read_all t (text_of t now) ns).fields
    fields_read P a = rw (text_is_read.fields, by_groups) (groups.pick (λ all. P (expected all now)) a)
