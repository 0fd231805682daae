-- The nodes of a template that the writer writes, and their text. Assumes nothing.
-- `Sound`: a node is a literal, or a pattern that is written (`Pattern`). `bare`: a number has no prefix.
-- `sound_nodes`: all nodes are so, if there is none that the writer does not write.
-- `pieces_literal`, `pieces_pattern`, `literal_text_lem`, `pattern_text`: the pieces from a node on, and its text.
use Rattle.std.specs.Prelude.{Option, Some}
use mathlib.Core.Path.{◌≡◌, ◌∙◌, refl, sym}
use mathlib.Core.Bool.{Bool, true, false, not, false≢true}
use mathlib.Core.List.{List, [], ◌∷◌}
use Prim.Native.Nat.{ℕ, ◌≤◌}
use native.Mathlib.Omega.{arith}
use borrow.Author.Tests.{eqb-true, eq-eqb, ne_eqb}
use lib.Dec.{eqb}
use lib.ListN.{length}
use Rattle.base_notation.specs.Choice.{when◌then◌else◌}
use Rattle.base_notation.proofs.Cases.{both}
use Rattle.template_patterns.specs.Cases.{case_of}
use Rattle.template_patterns.specs.Patterns.{name_of}
use Rattle.template_nodes.specs.Template.{action}
use Rattle.template_nodes.specs.declared.Node.{Node}
use Rattle.write_text.specs.Full.{pieces}
use Rattle.write_pieces.specs.Pieces.{piece_of, piece_text, prefix_of}
use Rattle.write_text.specs.Text.{node_text, literal_text}
use Rattle.write_text.specs.Writer.{all_written, first_unwritten, is_written, named}
use Rattle.write_pieces.specs.declared.Moment.{Moment}
use Rattle.write_text.proofs.Lengths.{action_text}
use Rattle.readback.proofs.Known.{Reads, known}
use Rattle.readback.proofs.Nodes.{Literal, Good, is_literal, is_named, AllGood}

-- a pattern that the writer knows, with its piece's prefix and no suffix
pub record Pattern (n : Node) : Type 0 where
  pub is_action : n.kind ≡ action
  pub affix : n.suffix ≡ prefix_of (piece_of n.pattern)
  pub size : n.len ≡ length (name_of n.pattern)
  pub some : 1 ≤ piece_of n.pattern
  pub reads : Reads n.pattern (piece_of n.pattern)

-- a number has no prefix
pub bare : {n : Node} (k : Pattern n) → piece_of n.pattern ≤ 13 → n.suffix ≡ 0
bare {n} k to = k.affix ∙ rw (ne_eqb (piece_of n.pattern) 16 (omega arith))

pub data Sound (t : List ℕ) (n : Node) : Type 0 where
  a_literal : Literal t n → Sound t n
  a_pattern : Pattern n → Sound t n

abbrev pub AllSound : List ℕ → List Node → Type 0
AllSound t [] = Unit {0}
AllSound t (n ∷ ns) = Sound t n × AllSound t ns

module _ (t : List ℕ) where
  -- a good node that is written is sound
  sound : (n : Node) → is_written n ≡ true → Good t n → Sound t n
  sound n e (is_literal l) = a_literal l
  sound n e (is_named g) =
      let tests = both (not (eqb (piece_of n.pattern) 0)) _ (rw (eq-eqb n.kind action g.is_action) at e) in
      let has_piece : piece_of n.pattern ≡ 0 → ⊥ = λ q. false≢true (rw (eq-eqb (piece_of n.pattern) 0 q) at tests.0) in
      a_pattern (record {
        is_action = g.is_action;
        affix = eqb-true _ _ tests.1;
        size = g.size;
        some = omega (arith, has_piece);
        reads = known n.pattern g.known has_piece;
      })

  -- with no unwritten node from this one on, this one is written, and none after it is unwritten
  written : (n : Node) (rest : Option ℕ) → Good t n → (when is_written n then rest else Some (named n.pattern)) ≡ all_written → (is_written n ≡ true) × (rest ≡ all_written)
  written n rest g e = by (is_written n) refl g e
    where
      by : (w : Bool) → is_written n ≡ w → Good t n → (when w then rest else Some (named n.pattern)) ≡ all_written → (w ≡ true) × (rest ≡ all_written)
      by true q g e = (refl, e)
      by false q (is_literal l) e = absurd (false≢true (sym q ∙ rw l.no_action))
      by false q (is_named k) e = let clash : ◌≡◌ {A = ℕ} 0 1 = cc in absurd (omega arith)

  pub sound_nodes : (ns : List Node) → AllGood t ns → first_unwritten ns ≡ all_written → AllSound t ns
  unfolding first_unwritten
  sound_nodes [] g e = tt
  sound_nodes (n ∷ ns) g e =
      let node_written = written n (first_unwritten ns) g.0 e in
      (sound n node_written.0 g.0, sound_nodes ns g.1 node_written.1)

  pub pieces_literal : (n : Node) (ns : List Node) → Literal t n → pieces (n ∷ ns) ≡ pieces ns
  unfolding pieces
  pieces_literal n ns l = rw l.no_action

  pub pieces_pattern : (n : Node) (ns : List Node) → Pattern n → pieces (n ∷ ns) ≡ piece_of n.pattern ∷ pieces ns
  unfolding pieces
  pieces_pattern n ns k = rw (eq-eqb n.kind action k.is_action)

  module _ (m : Moment) where
    pub literal_text_lem : (n : Node) → Literal t n → (node_text t m n ≡ literal_text t n)
    unfolding node_text
    literal_text_lem n l = rw l.no_action

    pub pattern_text : (n : Node) → Pattern n → node_text t m n ≡ piece_text (piece_of n.pattern) (case_of n.pattern) m
    pattern_text n k = action_text t m n k.is_action
