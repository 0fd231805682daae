-- Why nothing is written names no pattern, or one of the template's. Assumes nothing.
-- `written_own`: so it is by a template. `written_in_own`: so it is by the nodes that any bytes hold.
use Rattle.std.specs.Prelude.{Err, None, Ok, Option, Result, Some}
use mathlib.Core.Path.{◌≡◌, refl, subst}
use mathlib.Core.Bool.{false, not}
use mathlib.Core.List.{List, [], ◌∷◌}
use mathlib.Core.Logic.{inl, inr, ⊎_elim}
use Prim.Native.Nat.{ℕ}
use borrow.Author.Tests.{eqb-true, not-false}
use lib.Dec.{eqb, ltb}
use lib.ListN.{length}
use Rattle.base_notation.proofs.Cases.{by_if, neither}
use Rattle.base_settings.specs.Limits.{template_limit}
use Rattle.base_settings.specs.declared.Settings.{Settings}
use Rattle.base_refusals.specs.Report.{no_pattern}
use Rattle.base_chars.specs.Utf8.{well_formed}
use Rattle.moment_parts.specs.Patterns.{NoneOrIn}
use Rattle.template_nodes.specs.Bytes.{nodes_in}
use Rattle.template_nodes.specs.Template.{action, nodes_of}
use Rattle.template_nodes.specs.declared.Node.{Node}
use Rattle.write_pieces.specs.Moment.{is_moment}
use Rattle.write_pieces.specs.declared.Moment.{Moment}
use Rattle.write_text.specs.Report.{unwritten_report}
use Rattle.write_text.specs.Text.{text_of}
use Rattle.write_text.specs.Writer.{first_unwritten, is_written, nodes_limit, text_in, written_by, written_in, written_to}
use Rattle.write_text.specs.declared.Unwritten.{Unwritten}

-- P holds of the pattern that a refusal names
abbrev WrittenNames : (ℕ → Type 0) → Result ℕ Unwritten → Type 0
WrittenNames P (Ok n) = Unit {0}
WrittenNames P (Err why) = P (unwritten_report why).pattern

-- a node that is not written is a pattern
unwritten_action : (n : Node) → is_written n ≡ false → n.kind ≡ action
unwritten_action n e = eqb-true n.kind action (not-false _ (neither (not (eqb n.kind action)) _ e).0)

-- P holds of the first pattern that is not written, if there is one
abbrev FirstNames : (ℕ → Type 0) → Option ℕ → Type 0
FirstNames P None = Unit {0}
FirstNames P (Some p) = P p

-- that of the nodes after a node is in the nodes from it on
later : (n : Node) (ns : List Node) (first : Option ℕ) → FirstNames (NoneOrIn ns) first → FirstNames (NoneOrIn (n ∷ ns)) first
later n ns None h = tt
later n ns (Some p) h = ⊎_elim inl (λ i. inr (inr i)) h

first_own : (ns : List Node) → FirstNames (NoneOrIn ns) (first_unwritten ns)
unfolding first_unwritten
first_own [] = tt
first_own (n ∷ ns) =
    by_if (FirstNames (NoneOrIn (n ∷ ns))) (is_written n) _ _ (λ e. later n ns (first_unwritten ns) (first_own ns))
    (λ e. by_if (NoneOrIn (n ∷ ns)) (ltb n.pattern no_pattern) _ _ (λ _. inr (inl (unwritten_action n e, refl))) (λ _. inl refl))

-- the answer by nodes
by_own : (ns : List Node) (m : Moment) (text : List ℕ) (room : ℕ) → WrittenNames (NoneOrIn ns) (written_by (first_unwritten ns) m text room)
unfolding unwritten_report
by_own ns m text room = by (first_unwritten ns) (first_own ns)
  where
    by : (first : Option ℕ) → FirstNames (NoneOrIn ns) first → WrittenNames (NoneOrIn ns) (written_by first m text room)
    by (Some p) h = h
    by None h =
        let P = WrittenNames (NoneOrIn ns) in
        by_if P (not (is_moment m)) _ _ (λ e. inl refl) (λ e. by_if P (ltb room (length text)) _ _ (λ e. inl refl) (λ e. tt))

module _ (set : Settings) (t : List ℕ) (m : Moment) (room : ℕ) where
  to_own : WrittenNames (NoneOrIn (nodes_of t)) (written_to set t m room)
  unfolding written_to unwritten_report
  to_own =
      let P = WrittenNames (NoneOrIn (nodes_of t)) in
      by_if P (ltb (template_limit set) (length t)) _ _ (λ e. inl refl)
      (λ e. by_if P (not (well_formed t)) _ _ (λ e. inl refl) (λ e. by_own (nodes_of t) m (text_of t m) room))

  in_own : (c : List ℕ) → WrittenNames (NoneOrIn (nodes_in c)) (written_in set c t m room)
  unfolding written_in unwritten_report
  in_own c =
      by_if (WrittenNames (NoneOrIn (nodes_in c))) (ltb (nodes_limit set) (length c)) _ _ (λ e. inl refl)
      (λ e. by_own (nodes_in c) m (text_in c t m) room)

  pub written_own : {why : Unwritten} → written_to set t m room ≡ Err why → NoneOrIn (nodes_of t) (unwritten_report why).pattern
  written_own e = subst (WrittenNames (NoneOrIn (nodes_of t))) e to_own

  pub written_in_own : (c : List ℕ) {why : Unwritten} → written_in set c t m room ≡ Err why → NoneOrIn (nodes_in c) (unwritten_report why).pattern
  written_in_own c e = subst (WrittenNames (NoneOrIn (nodes_in c))) e (in_own c)
