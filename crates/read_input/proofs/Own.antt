-- A refusal of reading names a pattern of the nodes. Assumes nothing.
-- `read_own`: where P holds of each pattern among the nodes, it holds of the pattern that a refusal names.
use Rattle.std.specs.Prelude.{Err, Ok, Result, ⊤}
use mathlib.Core.Path.{◌≡◌}
use mathlib.Core.Bool.{Bool, true, false}
use mathlib.Core.List.{List, [], ◌∷◌}
use Prim.Native.Nat.{ℕ}
use borrow.Author.Tests.{eqb-true}
use lib.Dec.{eqb, ltb}
use lib.ListN.{length}
use Rattle.base_notation.proofs.Cases.{by_if}
use Rattle.base_refusals.specs.Report.{report_of}
use Rattle.read_integers.specs.Suffix.{is_free}
use Rattle.template_patterns.specs.Patterns.{pattern_of}
use Rattle.template_nodes.specs.Template.{action}
use Rattle.template_nodes.specs.declared.Node.{Node}
use Rattle.read_fields.specs.Fields.{get, mode, no_fields}
use Rattle.read_fields.specs.Tasks.{kind_of, task_of}
use Rattle.read_fields.specs.declared.Kind.TheVariants.{Nothing, Exact, Number, Word, Dropped, CommaYear, Offset, OffsetMinutes}
use Rattle.read_fields.specs.declared.Fields.{Fields}
use Rattle.read_fields.specs.declared.Place.{Place}
use Rattle.read_fields.specs.declared.Reading.{Reading}
use Rattle.read_fields.specs.declared.Task.{Task}
use Rattle.read_fields.proofs.Own.{VerdictNames, ReadingNames, onward_own}
use Rattle.read_numbers.proofs.Own.{read_number_own, read_dropped_own}
use Rattle.read_words.proofs.Own.{read_word_own}
use Rattle.read_offsets.proofs.Own.{read_offset_own, read_minutes_own}
use Rattle.read_literals.specs.Literals.{place}
use Rattle.read_input.specs.Reader.{mixes, with_mode, by_kind, performed, past_spaces, when_read, action_read, entered, node_read, head_of, read_from, read_all}
use Rattle.base_refusals.specs.declared.Refusal.{Refusal}

-- P holds of each pattern among the nodes
abbrev pub Each : (ℕ → Type 0) → List Node → Type 0
Each P [] = Unit {0}
Each P (n ∷ ns) = (n.kind ≡ action → P n.pattern) × Each P ns

module _ (P : ℕ → Type 0) (t s : List ℕ) where
  -- a pattern, whatever its task is
  module _ (n : Node) (own : P n.pattern) (f : Fields) (p : Place) where
    performed_own : (free : Bool) (task : Task) → ReadingNames P (performed s n free task f p)
    unfolding performed
    performed_own free task =
        (elim (kind_of task.kind) as (λ k. ReadingNames P (by_kind k s n free task f p)) [
          | Nothing ↦ tt
          | Exact ↦ tt
          | Number ↦ read_number_own P s n own f p free task
          | Word ↦ read_word_own P n own task f p s
          | Dropped ↦ read_dropped_own P s n own f p free task
          | CommaYear ↦ read_number_own P s n own f p free task
          | Offset ↦ read_offset_own P s n own free task f p
          | OffsetMinutes ↦ read_minutes_own P s n own free f p
        ])

  when_own : (v : Result ⊤ Refusal) (r : Reading) (p : Place) → VerdictNames P v → ReadingNames P r → ReadingNames P (when_read v r p)
  when_own (Ok tt) r p named done = done
  when_own (Err why) r p named done = named

  action_own : (n next : Node) → P n.pattern → (f : Fields) (p : Place) → ReadingNames P (action_read t s n next f p)
  unfolding action_read past_spaces report_of
  action_own n next own f p =
      let new = (pattern_of n.pattern).mode in
      let r = performed s n (is_free t n next) (task_of n.pattern) (with_mode new f) p in
      let named = performed_own n own (with_mode new f) p (is_free t n next) (task_of n.pattern) in
      by_if (ReadingNames P) (mixes new (get f mode)) _ _ (λ e. own) (λ e. when_own r.verdict (past_spaces s r) p named named)

  -- a literal refuses nothing
  node_own : (n next : Node) → (n.kind ≡ action → P n.pattern) → (first : Bool) (f : Fields) (p : Place)
      → ReadingNames P (node_read t s n next first f p)
  unfolding node_read
  node_own n next own first f p =
      by_if (ReadingNames P) (eqb n.kind action) _ _ (λ e. action_own n next (own (eqb-true n.kind action e)) f (entered s n first p)) (λ e. tt)

  -- nodes one after another
  from_own : (ns : List Node) → Each P ns → (first : Bool) (f : Fields) (p : Place) → ReadingNames P (read_from t s ns first f p)
  unfolding read_from
  from_own [] each first f p = tt
  from_own (n ∷ ns) each first f p =
      let r = node_read t s n (head_of ns) first f p in
      by_if (ReadingNames P) (ltb p.at (length s)) _ _
      (λ e. onward_own P r (read_from t s ns false r.fields r.place) (node_own n (head_of ns) each.0 first f p) (from_own ns each.1 false r.fields r.place))
      (λ e. tt)

  pub read_own : (ns : List Node) → Each P ns → ReadingNames P (read_all t s ns)
  unfolding read_all
  read_own ns each = from_own ns each true no_fields (place 0 0 false)
