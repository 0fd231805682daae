-- The texts of templates, and their lengths. Assumes nothing.
-- `action_text`, `literal_text_lem`: the text of a node is its piece's, or its literal's.
-- `action_size`: a pattern's text is as long as its piece's.
use mathlib.Core.Path.{◌≡◌}
use mathlib.Core.List.{List}
use Prim.Native.Nat.{ℕ}
use borrow.Author.Tests.{eq-eqb, ne_eqb}
use lib.ListN.{length}
use Rattle.template_patterns.specs.Cases.{case_of}
use Rattle.template_nodes.specs.Template.{action}
use Rattle.template_nodes.specs.declared.Node.{Node}
use Rattle.write_pieces.specs.Pieces.{piece_of, piece_text}
use Rattle.write_pieces.specs.declared.Moment.{Moment}
use Rattle.write_text.specs.Text.{literal_text, node_text}

module _ (t : List ℕ) (m : Moment) (n : Node) where
  pub action_text : n.kind ≡ action → node_text t m n ≡ piece_text (piece_of n.pattern) (case_of n.pattern) m
  unfolding node_text
  action_text e = rw (eq-eqb n.kind action e)

  pub literal_text_lem : (n.kind ≡ action → ⊥) → node_text t m n ≡ literal_text t n
  unfolding node_text
  literal_text_lem e = rw (ne_eqb n.kind action e)

  -- r is the length of a text of the piece p
  pub action_size : n.kind ≡ action → (p : ℕ) → p ≡ piece_of n.pattern → (r : ℕ) → r ≡ length (piece_text p (case_of n.pattern) m)
      → r ≡ length (node_text t m n)
  action_size e p is r size = rw (action_text e, ← is) size
