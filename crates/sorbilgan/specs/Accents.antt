-- The accents mode: what it counts as one character, and what it leaves as it is. Reading back in it is in demand 3.
use Rattle.std.specs.Prelude.{◌≡◌, Bool, true, false, List, ℕ, ◌+◌}
use Rattle.base_accents.specs.Accents.{letter_at, mark_at, measure_of}
use Rattle.base_settings.specs.Accents.{with_accents}
use Rattle.base_settings.specs.declared.Settings.{Settings}
use Rattle.moment_parts.specs.Parts.{parts_by}
use Rattle.template_nodes.specs.Joined.{ByWhatIsBefore}
use Rattle.template_nodes.specs.declared.Node.{Node}
use Rattle.write_pieces.specs.declared.Moment.{Moment}
use Rattle.write_text.specs.Full.{is_full}
use Rattle.write_text.specs.Writer.{written_in, written_to}

pub record AccentsMode : Type 0 where
  -- a letter has all marks right after it: no mark follows
  pub whole : (s : List ℕ) (at : ℕ) → letter_at s at ≡ true → mark_at s (at + measure_of true s at) ≡ false
  -- a mark where a character begins counts alone: at the start of an input, after a field
  pub alone : (s : List ℕ) (at : ℕ) → mark_at s at ≡ true → measure_of true s at ≡ 2
  -- the nodes of a template are those of the other mode, each mark joined to the letter right before it
  pub before : ByWhatIsBefore
  -- reading by nodes takes the mode from the nodes, whatever the settings say
  pub by_nodes : (b : Bool) (set : Settings) (ns : List Node) (t s : List ℕ) → parts_by (with_accents b set) ns t s ≡ parts_by set ns t s
  -- writing is the same in both modes, and so is which templates are full
  pub written : (b : Bool) (set : Settings) (t : List ℕ) (m : Moment) (room : ℕ) → written_to (with_accents b set) t m room ≡ written_to set t m room
  pub written_by : (b : Bool) (set : Settings) (c t : List ℕ) (m : Moment) (room : ℕ) → written_in (with_accents b set) c t m room ≡ written_in set c t m room
  pub full : (b : Bool) (set : Settings) (t : List ℕ) → is_full (with_accents b set) t ≡ is_full set t
