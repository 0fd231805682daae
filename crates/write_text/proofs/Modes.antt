-- The text is the same in both modes of characters. Assumes nothing.
-- `text_in_both`, `unwritten_in_both`, `pieces_in_both`: the text, the first pattern that is not written, and the
-- pieces of a template's patterns, by the nodes of either mode.
use mathlib.Core.Path.{◌≡◌, refl, ap}
use mathlib.Core.Bool.{Bool, false}
use mathlib.Core.List.{List, ◌++◌, append_assoc}
use Prim.Native.Nat.{ℕ, ◌+◌}
use lib.Dec.{eqb}
use lib.ListN.{drop}
use lib.Seq.{drop-drop, take-add}
use Rattle.template_nodes.specs.Joined.{longer}
use Rattle.template_nodes.specs.Template.{action, nodes_by, nodes_of}
use Rattle.template_nodes.specs.declared.Node.{Node}
use Rattle.template_nodes.proofs.Joined.{Kept, in_both_modes}
use Rattle.write_pieces.specs.declared.Moment.{Moment}
use Rattle.write_text.specs.Full.{pieces}
use Rattle.write_text.specs.Text.{node_text, nodes_text, text_of}
use Rattle.write_text.specs.Writer.{first_unwritten}

module _ (t : List ℕ) (m : Moment) where
  -- a letter with its mark has the bytes of both
  joined_text : (a b : Node) → eqb a.kind action ≡ false → eqb b.kind action ≡ false → b.start ≡ a.start + a.len
      → node_text t m (longer a b.len) ≡ node_text t m a ++ node_text t m b
  unfolding node_text
  joined_text a b p q e = rw (p, q, take-add a.len b.len (drop a.start t), drop-drop a.len a.start t, e)

  text_kept : Kept (nodes_text t m)
  unfolding nodes_text node_text
  text_kept = record {
    mode = λ n ns. refl;
    after = λ n ns ms e. ap (λ (text : List ℕ). node_text t m n ++ text) e;
    join = λ a b ns p q e. rw (joined_text a b p q e) (append_assoc (node_text t m a) (node_text t m b) (nodes_text t m ns));
  }

  pub text_in_both : (accents : Bool) → nodes_text t m (nodes_by accents t) ≡ text_of t m
  unfolding text_of
  text_in_both accents = in_both_modes (nodes_text t m) text_kept accents t

unwritten_kept : Kept first_unwritten
unfolding first_unwritten
unwritten_kept = record { mode = λ n ns. refl; after = λ n ns ms e. rw e; join = λ a b ns p q e. rw (p, q) }

pub unwritten_in_both : (accents : Bool) (t : List ℕ) → first_unwritten (nodes_by accents t) ≡ first_unwritten (nodes_of t)
unwritten_in_both = in_both_modes first_unwritten unwritten_kept

pieces_kept : Kept pieces
unfolding pieces
pieces_kept = record { mode = λ n ns. refl; after = λ n ns ms e. rw e; join = λ a b ns p q e. rw (p, q) }

pub pieces_in_both : (accents : Bool) (t : List ℕ) → pieces (nodes_by accents t) ≡ pieces (nodes_of t)
pieces_in_both = in_both_modes pieces pieces_kept
