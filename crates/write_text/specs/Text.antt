-- The text of a moment by a template: its literals as they are, and the pieces of its patterns, in the template's
-- order without gaps.
use Rattle.std.specs.Prelude.{◌≡◌, refl, List, [], ◌∷◌, ◌++◌, ℕ, eqb, take, drop}
use Rattle.base_notation.specs.Choice.{when◌then◌else◌}
use Rattle.base_notation.specs.Text.{utf8}
use Rattle.base_strtol.specs.Decimal.{decimal}
use Rattle.template_nodes.specs.Examples.{nodes_compute}
use Rattle.template_nodes.specs.Template.{action, character, literal, nodes_of, pattern}
use Rattle.template_nodes.specs.declared.Node.{Node}
use Rattle.template_patterns.specs.Cases.{case_of}
use Rattle.write_pieces.specs.Moment.{moment}
use Rattle.write_pieces.specs.Pieces.{piece_of, piece_text, number_of}
use Rattle.write_pieces.specs.declared.Moment.{Moment}

-- the bytes of a literal node, as far as the template has them
abbrev pub literal_text : List ℕ → Node → List ℕ
literal_text t n = take n.len (drop n.start t)

-- the text of a node: its piece's in the pattern's case, or its literal
unfoldable pub node_text : List ℕ → Moment → Node → List ℕ
node_text t m n = when eqb n.kind action then piece_text (piece_of n.pattern) (case_of n.pattern) m else literal_text t n

-- the texts of nodes one after another
unfoldable pub nodes_text : List ℕ → Moment → List Node → List ℕ
nodes_text t m [] = []
nodes_text t m (n ∷ ns) = node_text t m n ++ nodes_text t m ns

-- the text of a template
unfoldable pub text_of : List ℕ → Moment → List ℕ
text_of t m = nodes_text t m (nodes_of t)

-- a Vietnamese date
pub worked : text_of (utf8 "\"ngày \"DD\" tháng \"MM\" năm \"YYYY") (moment 2024 2 29 0 0 0 0) ≡ utf8 "ngày 29 tháng 02 năm 2024"
unfolding text_of nodes_text node_text piece_of piece_text number_of decimal nodes_compute
worked = refl

-- YYYY, a literal of two bytes, and one that the template cuts off after the first
pub cut : nodes_text (utf8 "YYYY. .") (moment 2024 2 29 0 0 0 0) (pattern 0 4 54 0 ∷ literal character 4 2 ∷ literal character 6 2 ∷ []) ≡ utf8 "2024. ."
unfolding nodes_text node_text piece_of piece_text number_of decimal
cut = refl
