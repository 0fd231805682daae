-- `template_nodes::marks::has_lone_mark` meets its contract: one node after the other is asked. Assumes nothing.
use mathlib.Core.Path.{◌≡◌, ◌∙◌, sym}
use mathlib.Core.Bool.{true, false}
use mathlib.Core.List.{List}
use Prim.Native.Nat.{ℕ, suc, ◌≤◌, ◌<◌}
use native.Mathlib.Numerals.{add-one}
use native.Mathlib.Omega.{arith}
use lib.ListN.{length, drop, get_or, drop_of_length-le}
use lib.Seq.{drop-cons}
use Rattle.template_nodes.specs.Bytes.{nodes_in}
use Rattle.template_nodes.specs.Joined.{has_lone_mark, is_mark}
use Rattle.template_nodes.specs.Template.{end_node}
use Rattle.template_nodes.specs.declared.Node.{Node}
use Rattle.template_nodes.proofs.Encoding.{nodes_length}
use Rattle.template_nodes.proofs.marks.has_lone_mark.Goals as goal

-- the node at i, and those after it
module _ (t : List ℕ) (ns : List Node) (i : ℕ) (h : i < length ns) where
  this_one : is_mark t (get_or ns i end_node) ≡ true → has_lone_mark t (drop i ns) ≡ true
  unfolding has_lone_mark
  this_one e = rw (drop-cons ns i end_node h, e)

  another : is_mark t (get_or ns i end_node) ≡ false → has_lone_mark t (drop i ns) ≡ has_lone_mark t (drop (suc i) ns)
  unfolding has_lone_mark
  another e = rw (drop-cons ns i end_node h, e)

none_left : (t : List ℕ) (ns : List Node) (i : ℕ) → length ns ≤ i → has_lone_mark t (drop i ns) ≡ false
unfolding has_lone_mark
none_left t ns i h = rw (drop_of_length-le ns h)

-- a mark
pub returns-then-is_lone_mark : goal.returns-then-is_lone_mark
returns-then-is_lone_mark c =
    let ns = nodes_in c.args.c.now in
    let i = c.loop-i.i in
    let inside : i < length ns = omega (arith, nodes_length c.args.c.now) in
    sym (sym c.loop-i.invariant ∙ this_one c.args.t.now ns i inside (rw (← c.node_at.ensures) (sym c.is_lone_mark.ensures ∙ c.if-is_lone_mark.true)))

-- none yet
pub loop-i-preserved : goal.loop-i-preserved
loop-i-preserved c =
    let ns = nodes_in c.args.c.now in
    let i = c.loop-i.i in
    let inside : i < length ns = omega (arith, nodes_length c.args.c.now) in
    rw add-one (sym (another c.args.t.now ns i inside (rw (← c.node_at.ensures) (sym c.is_lone_mark.ensures ∙ c.if-is_lone_mark.false))) ∙ c.loop-i.invariant)

-- none at all
pub returns : goal.returns
returns c =
    let ns = nodes_in c.args.c.now in
    sym (sym c.loop-i.invariant ∙ none_left c.args.t.now ns c.loop-i.i (omega (arith, nodes_length c.args.c.now)))
