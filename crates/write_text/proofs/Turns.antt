-- What the loops over the nodes have left, from a node on. Assumes nothing.
-- `node_left`, `none_left`: as long as a loop goes on there is a node here; once it ends there is none.
-- `unwritten_here`, `unwritten_next`, `unwritten_end`: the first unwritten pattern of what is left is that of the node
-- here, or that of the rest; at the end there is none.
-- `size_next`: what is left is as long as the node here and the rest.
-- `room_here`, `put_next`: where there is room for what is left, there is room for the node here; once that is put, for
-- the rest, and putting the rest puts all that was left.
-- `text_end`: at the end no text is left.
use Rattle.std.specs.Prelude.{Some}
use mathlib.Core.Path.{◌≡◌, ◌∙◌, ap}
use mathlib.Core.Bool.{true, false}
use mathlib.Core.List.{List, [], ◌∷◌, ◌++◌}
use Prim.Native.Nat.{ℕ, ◌+◌, ◌/◌, ◌<◌, ◌≤◌}
use native.Mathlib.Numerals.{add-one}
use native.Mathlib.Omega.{arith}
use lib.ListN.{length, drop, get_or, drop_of_length-le, length-append}
use lib.Seq.{drop-cons, sets}
use Rattle.template_nodes.specs.Bytes.{nodes_in}
use Rattle.template_nodes.specs.Template.{end_node}
use Rattle.template_nodes.specs.declared.Node.{Node}
use Rattle.template_nodes.proofs.Encoding.{nodes_length}
use Rattle.write_pieces.specs.Output.{Put}
use Rattle.write_text.specs.Text.{node_text, nodes_text}
use Rattle.write_text.specs.Writer.{all_written, first_unwritten, is_written, named}
use Rattle.write_pieces.specs.declared.Moment.{Moment}
use Rattle.write_pieces.proofs.Puts.{put_after}

-- as many nodes as the loops over their bytes count
module _ (c : List ℕ) (i : ℕ) where
  pub node_left : i < length c / 6 → i < length (nodes_in c)
  node_left h = omega (arith, nodes_length c)

  pub none_left : length c / 6 ≤ i → length (nodes_in c) ≤ i
  none_left h = omega (arith, nodes_length c)

module _ (nodes : List Node) (i : ℕ) where
  abbrev left : List Node
  left = drop i nodes

  abbrev here : Node
  here = get_or nodes i end_node

  abbrev next : List Node
  next = drop (i + 1) nodes

  -- a node is left
  module _ (h : i < length nodes) where
    one : left ≡ here ∷ next
    one = drop-cons nodes i end_node h ∙ rw (add-one i)

    pub unwritten_here : is_written here ≡ false → first_unwritten left ≡ Some (named here.pattern)
    unfolding first_unwritten
    unwritten_here e = rw (one, e)

    pub unwritten_next : is_written here ≡ true → first_unwritten left ≡ first_unwritten next
    unfolding first_unwritten
    unwritten_next e = rw (one, e)

    text_next : (t : List ℕ) (m : Moment) → nodes_text t m left ≡ node_text t m here ++ nodes_text t m next
    unfolding nodes_text
    text_next t m = rw one

    pub size_next : (t : List ℕ) (m : Moment) → length (nodes_text t m left) ≡ length (node_text t m here) + length (nodes_text t m next)
    size_next t m = ap length (text_next t m) ∙ length-append (node_text t m here) (nodes_text t m next)

    -- where there is room for what is left, there is room for the node here
    pub room_here : (t : List ℕ) (m : Moment) (at room : ℕ) → at + length (nodes_text t m left) ≤ room → at + length (node_text t m here) ≤ room
    room_here t m at room r = omega (arith, size_next t m)

    -- and once the node is put, for the rest, and putting that puts all that was left
    pub put_next : (t : List ℕ) (m : Moment) {out after : List ℕ} {at next_at : ℕ} (room : ℕ) → at + length (nodes_text t m left) ≤ room
        → Put out at (node_text t m here) after next_at
        → (next_at + length (nodes_text t m next) ≤ room) × (sets after next_at (nodes_text t m next) ≡ sets out at (nodes_text t m left))
    put_next t m {out} {after} {at} room r p =
        (omega (arith, size_next t m, p.next), rw (p.is, p.next, text_next t m) (put_after out at (node_text t m here) (nodes_text t m next)))

  -- none is left
  module _ (h : length nodes ≤ i) where
    none : left ≡ []
    none = drop_of_length-le nodes {i = i} h

    pub unwritten_end : first_unwritten left ≡ all_written
    unfolding first_unwritten
    unwritten_end = rw none

    pub text_end : (t : List ℕ) (m : Moment) → nodes_text t m left ≡ []
    unfolding nodes_text
    text_end t m = rw none
