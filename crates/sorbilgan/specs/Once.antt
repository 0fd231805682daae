-- A template that is compiled once: what is read and written by its nodes is what the template gives each time.
use Rattle.std.specs.Prelude.{◌≡◌, true, List, ℕ, ◌≤◌, length}
use Rattle.base_settings.specs.Limits.{template_limit}
use Rattle.base_settings.specs.declared.Settings.{Settings}
use Rattle.base_chars.specs.Utf8.{well_formed}
use Rattle.moment_instants.specs.ByTemplate.{date_of, day_by, instant_by, timestamp_of}
use Rattle.moment_parts.specs.Parts.{parts_by, parts_of}
use Rattle.template_nodes.specs.Bytes.{nodes_in}
use Rattle.template_nodes.specs.Joined.{has_lone_mark}
use Rattle.template_nodes.specs.Template.{nodes_by}
use Rattle.write_text.specs.Text.{text_of}
use Rattle.write_text.specs.Writer.{text_in, written_in, written_to}
use Rattle.write_pieces.specs.declared.Moment.{Moment}
use Rattle.sorbilgan.specs.Compiled.{compiled}

-- the answers to every input, moment and buffer
pub record SameAnswers (set : Settings) (t : List ℕ) : Type 0 where
  pub parts : (s : List ℕ) → parts_by set (nodes_in (compiled set t)) t s ≡ parts_of set t s
  pub instant : (s : List ℕ) → instant_by (parts_by set (nodes_in (compiled set t)) t s) ≡ timestamp_of set t s
  pub day : (s : List ℕ) → day_by (parts_by set (nodes_in (compiled set t)) t s) ≡ date_of set t s
  pub written : (m : Moment) (room : ℕ) → written_in set (compiled set t) t m room ≡ written_to set t m room
  pub text : (m : Moment) → text_in (compiled set t) t m ≡ text_of t m
  -- and whether a mark counts alone in the template, in the caller's mode
  pub lone : has_lone_mark t (nodes_in (compiled set t)) ≡ has_lone_mark t (nodes_by set.accents t)

-- by every template that is compiled, for every caller
abbrev pub CompileOnce : Type 0
CompileOnce = (set : Settings) (t : List ℕ) → length t ≤ template_limit set → well_formed t ≡ true → SameAnswers set t
