-- No mark follows a node in the text of a template in which no mark counts alone. Assumes nothing.
-- `clear_nodes`: so it is in the accents mode; the other has nothing to ask.
use mathlib.Core.Path.{◌≡◌, ◌∙◌, refl, sym}
use mathlib.Core.Bool.{Bool, true, false, false≢true}
use mathlib.Core.List.{List, [], ◌∷◌, ◌++◌}
use Prim.Native.Nat.{ℕ}
use native.Mathlib.Omega.{arith}
use borrow.Author.Tests.{not-true}
use Rattle.base_notation.proofs.Cases.{neither}
use Rattle.base_accents.specs.Accents.{mark_at}
use Rattle.base_accents.proofs.Marks.{low_no_mark}
use Rattle.template_nodes.specs.Joined.{has_lone_mark, is_mark, none_alone}
use Rattle.template_nodes.specs.Template.{nodes_by, nodes_of}
use Rattle.template_nodes.specs.declared.Node.{Node}
use Rattle.template_nodes.proofs.Encoding.{All}
use Rattle.template_nodes.proofs.Nodes.{plain_nodes}
use Rattle.template_patterns.specs.Cases.{case_of}
use Rattle.write_pieces.specs.Moment.{moment}
use Rattle.write_pieces.specs.Pieces.{piece_of}
use Rattle.write_pieces.specs.declared.Moment.{Moment}
use Rattle.write_text.specs.Text.{node_text, nodes_text}
use Rattle.readback.proofs.MomentFacts.{IsMoment}
use Rattle.readback.proofs.Sound.{AllSound, Sound, a_literal, a_pattern, literal_text_lem, pattern_text}
use Rattle.readback.proofs.Spells.{AllClear}
use Rattle.readback.proofs.Texts.{piece_spelled, spelled_written}

module _ (t : List ℕ) {y mo d h mi sec us : ℕ} (is : IsMoment y mo d h mi sec us) where
  abbrev now : Moment
  now = moment y mo d h mi sec us

  -- what a node writes begins with no mark, unless the node is one
  node_clear : (n : Node) (v : List ℕ) → Sound t n → is_mark t n ≡ false → mark_at (node_text t now n ++ v) 0 ≡ false
  node_clear n v (a_literal l) e = rw (literal_text_lem t now n l) (l.begins v ∙ rw l.no_action at e)
  node_clear n v (a_pattern k) e =
      let spelled = piece_spelled now (case_of n.pattern) (piece_of n.pattern) (omega (arith, k.reads.piece)) in
      rw (pattern_text t now n k) (low_no_mark _ 0 (omega (arith, (spelled_written is k.some spelled).ascii v)))

  text_clear : (ns : List Node) → AllSound t ns → has_lone_mark t ns ≡ false → mark_at (nodes_text t now ns) 0 ≡ false
  unfolding nodes_text has_lone_mark
  text_clear [] a e = low_no_mark [] 0 (omega arith)
  text_clear (n ∷ ns) a e = node_clear n (nodes_text t now ns) a.0 (neither (is_mark t n) _ e).0

  none_alone_lem : (ns : List Node) → AllSound t ns → has_lone_mark t ns ≡ false → AllClear t now ns
  unfolding has_lone_mark
  none_alone_lem [] a e = tt
  none_alone_lem (n ∷ ns) a e =
      let others = (neither (is_mark t n) _ e).1 in
      (λ accents. text_clear ns a.1 others, none_alone_lem ns a.1 others)

  no_accents : (ns : List Node) → All (λ (n : Node). n.accents ≡ false) ns → AllClear t now ns
  no_accents [] a = tt
  no_accents (n ∷ ns) a = (λ accents. absurd (false≢true (sym a.0 ∙ accents)), no_accents ns a.1)

  pub clear_nodes : (accents : Bool) → (accents ≡ true → none_alone t ≡ true) → AllSound t (nodes_by accents t) → AllClear t now (nodes_by accents t)
  clear_nodes true joined a = none_alone_lem (nodes_by true t) a (not-true _ (joined refl))
  clear_nodes false joined a = no_accents (nodes_of t) (plain_nodes t)
