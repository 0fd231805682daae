-- Callers with different limits. What is within the limits of both has equal answers.
use Rattle.std.specs.Prelude.{◌≡◌, List, ℕ, ◌≤◌, length}
use Rattle.base_settings.specs.Limits.{card_limits, input_limit, page_limits, template_limit, with_limits}
use Rattle.base_settings.specs.declared.Limits.{Limits}
use Rattle.base_settings.specs.declared.Settings.{Settings}
use Rattle.moment_instants.specs.ByTemplate.{date_of, day_by, instant_by, timestamp_of}
use Rattle.moment_parts.specs.Parts.{parts_by, parts_of}
use Rattle.template_nodes.specs.declared.Node.{Node}
use Rattle.write_pieces.specs.declared.Moment.{Moment}
use Rattle.write_text.specs.Writer.{nodes_limit, written_in, written_to}
use Rattle.sorbilgan.specs.Compiled.{compiled_to}

-- a template and an input are within the limits of a caller
pub record Within (set : Settings) (t s : List ℕ) : Type 0 where
  pub template : length t ≤ template_limit set
  pub input : length s ≤ input_limit set

-- two callers get equal answers to a template and an input: with the template each time, where it is compiled, and by
-- nodes. Reading takes any nodes, writing no more than a template of either caller has
pub record EqualAnswers (a b : Settings) (t s : List ℕ) : Type 0 where
  pub parts : parts_of a t s ≡ parts_of b t s
  pub instant : timestamp_of a t s ≡ timestamp_of b t s
  pub day : date_of a t s ≡ date_of b t s
  pub written : (m : Moment) (room : ℕ) → written_to a t m room ≡ written_to b t m room
  pub compiled : compiled_to a t ≡ compiled_to b t
  pub parts_by_nodes : (ns : List Node) → parts_by a ns t s ≡ parts_by b ns t s
  pub instant_by_nodes : (ns : List Node) → instant_by (parts_by a ns t s) ≡ instant_by (parts_by b ns t s)
  pub day_by_nodes : (ns : List Node) → day_by (parts_by a ns t s) ≡ day_by (parts_by b ns t s)
  pub written_by : (c : List ℕ) → length c ≤ nodes_limit a → length c ≤ nodes_limit b → (m : Moment) (room : ℕ)
      → written_in a c t m room ≡ written_in b c t m room

-- callers that differ in their limits alone
abbrev pub WithinBoth : Type 0
WithinBoth = (set : Settings) (k l : Limits) (t s : List ℕ) → Within (with_limits k set) t s → Within (with_limits l set) t s
    → EqualAnswers (with_limits k set) (with_limits l set) t s

-- the flash cards and the exercise pages, on a pair within the smaller limits
abbrev pub CardsAndPages : Type 0
CardsAndPages = (set : Settings) (t s : List ℕ) → length t ≤ 64 → length s ≤ 96
    → EqualAnswers (with_limits card_limits set) (with_limits page_limits set) t s
