-- Without FX no more spaces are skipped than the input has bytes, whatever was read. Assumes nothing.
-- `payable_action`: so after a pattern that was read.
-- `payable_entered`: so after the spaces before a node.
-- `payable_literal`: so after a literal.
-- `payable_node`: so after any node that was read.
-- `never`: a refusal is not the verdict Read.
use Rattle.std.specs.Prelude.{Err, Ok, Result, ⊤}
use mathlib.Core.Path.{◌≡◌, ◌∙◌, refl, sym}
use mathlib.Core.Bool.{Bool, true, false, ◌&&◌, ◌||◌, true≢false}
use mathlib.Core.List.{List}
use Prim.Native.Nat.{ℕ, ◌+◌, ◌≤◌, pred}
use native.Mathlib.Omega.{arith}
use lib.Dec.{eqb, ltb}
use lib.ListN.{length}
use Rattle.base_notation.specs.Choice.{when◌then◌else◌}
use Rattle.base_notation.specs.Text.{byte_at}
use Rattle.base_notation.proofs.Cases.{by_if}
use Rattle.base_refusals.specs.declared.Refusal.{Refusal}
use Rattle.base_refusals.specs.declared.Refusal.TheVariants.{MixedDates}
use Rattle.base_chars.specs.Class.{is_space, is_separator}
use Rattle.read_integers.specs.Suffix.{is_free}
use Rattle.template_patterns.specs.Patterns.{pattern_of}
use Rattle.template_nodes.specs.Template.{action, separator, space}
use Rattle.template_nodes.specs.declared.Node.{Node}
use Rattle.read_fields.specs.Fields.{get, is_exact, mode, no_fields, refuse}
use Rattle.read_literals.specs.Literals.{Payable, past_field, blank_passed, char_passed, entered_by, literal_passed, place, skipped}
use Rattle.read_input.specs.Reader.{action_read, entered, mixes, node_read, past_spaces, performed, when_read, with_mode}
use Rattle.read_fields.specs.Tasks.{task_of}
use Rattle.read_fields.specs.declared.Fields.{Fields}
use Rattle.read_fields.specs.declared.Place.{Place}
use Rattle.read_fields.specs.declared.Reading.{Reading}
use Rattle.read_literals.proofs.Literals.{spaces_few}

-- the two verdicts differ
pub never : {why : Refusal} → ◌≡◌ {A = Result ⊤ Refusal} (Err why) (Ok tt) → ⊥
never e = let same : ◌≡◌ {A = ℕ} 0 1 = cc in omega arith

module _ (s : List ℕ) where
  -- after a field
  payable_past : (p : Place) → Payable s (past_field s p)
  payable_past p =
      let q = place p.at 0 false in
      by_if (Payable s) (is_exact p) p (skipped s q) (λ e h. absurd (true≢false (sym e ∙ h))) (λ e h. omega (arith, spaces_few s q))

  -- what holds of every refusal, and of all that is read, holds of a pattern
  module _ (f : Fields) (p : Place) where
    by_verdict
        : (P : Reading → Type 0) → ((why : Refusal) → P (refuse why no_fields p)) → (r : Reading) (v : Result ⊤ Refusal) → (v ≡ Ok tt → P (past_spaces s r))
        → P (when_read v (past_spaces s r) p)
    by_verdict P refused r (Ok tt) done = done refl
    by_verdict P refused r (Err why) done = refused why

    by_action
        : (P : Reading → Type 0) → ((why : Refusal) → P (refuse why no_fields p)) → ((r : Reading) → r.verdict ≡ Ok tt → P (past_spaces s r))
        → (t : List ℕ) (n next : Node) → P (action_read t s n next f p)
    unfolding action_read
    by_action P refused done t n next =
        let new = (pattern_of n.pattern).mode in
        let r = performed s n (is_free t n next) (task_of n.pattern) (with_mode new f) p in
        by_if P (mixes new (get f mode)) _ _ (λ e. refused (MixedDates n.pattern)) (λ e. by_verdict P refused r r.verdict (done r))

    pub payable_action : (t : List ℕ) (n next : Node) → (action_read t s n next f p).verdict ≡ Ok tt → Payable s (action_read t s n next f p).place
    unfolding past_spaces
    payable_action =
        by_action (λ (r : Reading). r.verdict ≡ Ok tt → Payable s r.place) (λ why e. absurd (never e)) (λ r v e. payable_past r.place)

  -- the spaces before a node; before the first node none were skipped
  pub payable_entered : (p : Place) (first : Bool) → Payable s p → (first ≡ true → p.extra ≡ 0) → Payable s (entered_by s first p)
  payable_entered p first pay none =
      by_if (Payable s) (is_exact p) p (when first then skipped s p else p) (λ e. pay)
      (λ e. by_if (Payable s) first (skipped s p) p (λ b h. omega (arith, none b, spaces_few s p)) (λ b. pay))

  less : (n : ℕ) → n ≤ length s → pred n ≤ length s
  less n h = omega arith

  -- a literal takes skipped spaces and adds none
  pub payable_literal : (n : Node) (p : Place) → Payable s p → Payable s (literal_passed s n p)
  unfolding literal_passed
  payable_literal n p pay =
      let b = byte_at s p.at in
      let left = place p.at (pred p.extra) false in
      by_if (Payable s) (is_exact p) (char_passed s n p) _ (λ e. pay)
      (λ e. by_if (Payable s) (eqb n.kind separator || eqb n.kind space) (blank_passed s p) _
      (λ k. by_if (Payable s) (ltb p.at (length s) && (is_space b || is_separator b)) (place (p.at + 1) p.extra false) left (λ t h. pay e) (λ t h. less p.extra (pay e)))
      (λ k. by_if (Payable s) (ltb 0 p.extra) left (char_passed s n p) (λ t h. less p.extra (pay e)) (λ t. pay)))

  -- a node that is read
  pub payable_node
      : (n next : Node) (f : Fields) (p : Place) (first : Bool) (t : List ℕ) → Payable s p → (first ≡ true → p.extra ≡ 0)
      → (node_read t s n next first f p).verdict ≡ Ok tt → Payable s (node_read t s n next first f p).place
  unfolding node_read entered
  payable_node n next f p first t pay none =
      by_if (λ (r : Reading). r.verdict ≡ Ok tt → Payable s r.place) (eqb n.kind action) _ _ (λ e. payable_action f _ t n next)
      (λ e v. rw e (payable_literal n _ (payable_entered p first pay none)))
