-- The eight markers: each writes the half of the day in its own case, with dots where it has them.
use Rattle.std.specs.Prelude.{◌≡◌, refl, List, ℕ}
use Prim.Native.String.{String}
use Rattle.base_notation.specs.Choice.{when◌then◌else◌}
use Rattle.base_notation.specs.Text.{utf8}
use Rattle.base_strtol.specs.Decimal.{decimal}
use Rattle.template_patterns.specs.Cases.{case_of}
use Rattle.template_patterns.specs.Patterns.{name_of}
use Rattle.template_nodes.specs.Examples.{nodes_compute}
use Rattle.template_nodes.specs.Template.{action}
use Rattle.template_nodes.specs.declared.Node.{Node}
use Rattle.write_pieces.specs.Moment.{moment}
use Rattle.write_pieces.specs.Pieces.{is_morning, number_of, piece_of, piece_text}
use Rattle.write_pieces.specs.declared.Moment.{Moment}
use Rattle.write_text.specs.Text.{node_text, nodes_text, text_of}

-- a pattern with this name writes `early` before noon and `late` from noon on, in every template and at every moment
abbrev pub Writes : String → String → String → Type 0
Writes name early late =
    (t : List ℕ) (m : Moment) (n : Node) → n.kind ≡ action → name_of n.pattern ≡ utf8 name
    → node_text t m n ≡ (when is_morning m then utf8 early else utf8 late)

-- all eight markers
pub record OwnCase : Type 0 where
  pub capitals : Writes "AM" "AM" "PM" × Writes "PM" "AM" "PM"
  pub small : Writes "am" "am" "pm" × Writes "pm" "am" "pm"
  pub dotted_capitals : Writes "A.M." "A.M." "P.M." × Writes "P.M." "A.M." "P.M."
  pub dotted_small : Writes "a.m." "a.m." "p.m." × Writes "p.m." "a.m." "p.m."

-- five past nine in the evening; just before noon by all eight, and at noon
pub worked
    : (text_of (utf8 "HH12:MI am") (moment 2024 5 5 21 5 0 0) ≡ utf8 "09:05 pm")
    × (text_of (utf8 "AM PM A.M. P.M. am pm a.m. p.m.") (moment 2024 5 5 11 59 59 0) ≡ utf8 "AM AM A.M. A.M. am am a.m. a.m.")
    × (text_of (utf8 "AM PM A.M. P.M. am pm a.m. p.m.") (moment 2024 5 5 12 0 0 0) ≡ utf8 "PM PM P.M. P.M. pm pm p.m. p.m.")
unfolding text_of nodes_text node_text piece_of case_of piece_text number_of decimal nodes_compute
worked = (refl, refl, refl)
