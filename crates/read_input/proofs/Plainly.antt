-- A number in the lane. Assumes nothing.
-- `plainly`: a pattern without an ordinal suffix, before FX, reads digits right at the place as this number, if they are
-- as many as its width or it is free, and if neither field nor date mode was set to another value.
-- `is_taken`: the same of what the code has.
-- `of_pattern`, `of_literal`, `of_character`: what is left after a node, by its kind.
-- `chars_end`: characters that are read up to a node, as the code answers.
-- `node_on`: a node that is read, as the code answers.
-- `settled`: a place without skipped spaces, before FX.
use Rattle.std.specs.Prelude.{Some, Ok, Result}
use mathlib.Core.Path.{◌≡◌, ◌∙◌, refl, sym, ap, subst}
use mathlib.Core.Bool.{Bool, true, false, not, ◌||◌, true≢false}
use mathlib.Core.List.{List}
use Prim.Native.Nat.{ℕ, ◌+◌, ◌-◌, ◌≤◌, ◌<◌}
use native.Mathlib.Nat.{add-zero}
use native.Mathlib.Omega.{arith}
use borrow.Author.Tests.{eqb-true, eq-eqb, ne_eqb}
use lib.Dec.{eqb}
use lib.IntN.{ℤ, pos}
use lib.ListN.{length, get_or}
use lib.Seq.{get_or-set_other}
use Rattle.base_notation.specs.Choice.{when◌then◌else◌}
use Rattle.base_notation.proofs.Cases.{by_if}
use Rattle.base_accents.specs.Accents.{measure_of}
use Rattle.base_strtol.specs.Strtol.{short_at}
use Rattle.base_strtol.specs.declared.Short.{Short}
use Rattle.read_integers.specs.Number.{number_at, up_to}
use Rattle.read_integers.specs.Suffix.{is_free, ordinal, past_ordinal}
use Rattle.read_integers.specs.declared.Number.{Number}
use Rattle.read_integers.proofs.FewDigits.{few_digits, few_no_space}
use Rattle.template_patterns.specs.Patterns.{pattern_of}
use Rattle.template_nodes.specs.Template.{end_node}
use Rattle.template_nodes.specs.declared.Node.{Node}
use Rattle.read_fields.specs.Fields.{at_place, conflicts, fields_of, get, mode, put, read}
use Rattle.read_fields.specs.Tasks.{comma_year, exact, kind_of, number, same_kind, task_of}
use Rattle.read_fields.specs.declared.Fields.{Fields}
use Rattle.read_fields.specs.declared.Kind.{Kind}
use Rattle.read_fields.specs.declared.Place.{Place}
use Rattle.read_fields.specs.declared.Reading.{Reading}
use Rattle.read_fields.specs.declared.Task.{Task}
use Rattle.read_fields.proofs.Assigned.{number_apart}
use Rattle.read_numbers.specs.Numbers.{stored_number, with_number}
use Rattle.read_numbers.specs.Year.{comma_year_at}
use Rattle.read_literals.specs.Literals.{entered_by, literal_passed, past_field, place}
use Rattle.read_input.specs.Reader.{action_read, by_kind, entered, mixes, node_read, performed, with_mode}
use Rattle.read_input.specs.Lane.{CharsRead, NodeTook, NumberPut, passed_at}
use Rattle.std.proofs.lemmas.Option.{none-some, same_Some}
use Rattle.read_input.specs.declared.lane.Passed.{Passed}
use Rattle.read_input.specs.Turn.{Turned}
use Rattle.read_input.proofs.Turns.{passes}
use Rattle.read_input.proofs.Verdicts.{passed}
use Rattle.base_refusals.specs.declared.Refusal.{Refusal}

-- the date mode leaves every other field
other_field : (new k : ℕ) (f : Fields) → (k ≡ 0 → ⊥) → get (with_mode new f) k ≡ get f k
other_field new k f apart =
    by_if (λ (g : Fields). get g k ≡ get f k) (eqb new 0) f (put f mode (pos new)) (λ e. refl) (λ e. get_or-set_other f.values mode k (pos new) (pos 0) apart)

module _ (t s : List ℕ) (n next : Node) (f : Fields) (p : Place) (d : Short) (there : short_at s p.at ≡ Some d) where
  abbrev task : Task
  task = task_of n.pattern

  abbrev new : ℕ
  new = (pattern_of n.pattern).mode

  abbrev value : ℤ
  value = pos d.value

  abbrev end : ℕ
  end = d.end

  module _ (kind : kind_of task.kind ≡ number) (bare : ordinal n.suffix ≡ false) (inexact : p.fx ≡ 0)
      (wide : is_free t n next ≡ false → end - p.at ≡ task.operand)
      (unmixed : mixes new (get f mode) ≡ false)
      (alone : conflicts (get f task.field) value ≡ false)
    where
      abbrev q : Place
      q = place p.at p.extra false

      -- no space is before the digits
      entered_is : entered_by s (not (same_kind (kind_of task.kind) exact)) p ≡ q
      entered_is = rw (kind, inexact, few_no_space s p.at n.pattern task.operand d there, add-zero p.at, add-zero p.extra) refl

      abbrev r : Reading
      r = read (with_number task value (end - p.at) (with_mode new f)) (at_place q end)

      stored : stored_number s n task (Ok (up_to value end)) (with_mode new f) q ≡ r
      unfolding stored_number past_ordinal
      stored = rw (other_field new task.field f (number_apart n.pattern kind), alone, bare) refl

      -- the number, by the kind of the task
      abbrev found : Kind → Result Number Refusal
      found k = when same_kind k comma_year then comma_year_at s p.at n.pattern else number_at s p.at task.operand n.pattern (is_free t n next)

      abbrev with : Result Number Refusal → Reading
      with x = stored_number s n task x (with_mode new f) q

      is : r ≡ performed s n (is_free t n next) task (with_mode new f) q
      unfolding performed
      is =
          sym (ap (λ (k : Kind). by_kind k s n (is_free t n next) task (with_mode new f) q) kind
          ∙ ap (λ (k : Kind). with (found k)) kind
          ∙ ap with (few_digits s p.at n.pattern task.operand d there (is_free t n next) wide)
          ∙ stored)

      pub plainly
          : read (with_number task value (end - p.at) (with_mode new f)) (past_field s (place end 0 false))
          ≡ action_read t s n next f (entered_by s (not (same_kind (kind_of task.kind) exact)) p)
      plainly = rw entered_is (passed t s n next f q unmixed r is refl)

-- of two tests one passed, and not the second
or_first : (a : Bool) {b : Bool} → (a || b) ≡ true → b ≡ false → a ≡ true
or_first true e f = refl
or_first false e f = absurd (true≢false (sym e ∙ f))

-- the same of what the code has: the digits d, the task, the mode, and the place after the spaces that follow
module _ (t s : List ℕ) (n next : Node) (before : List ℤ) (p : Place) {after : List ℤ} {after_spaces : Place} (d : Short) {task : Task} {new : ℕ} {put : Bool}
    (there : short_at s p.at ≡ Some d) (task_is : task ≡ task_of n.pattern) (new_is : new ≡ (pattern_of n.pattern).mode)
  where
    pub is_taken
        : kind_of task.kind ≡ number → ordinal n.suffix ≡ false → p.fx ≡ 0 → (eqb (d.end - p.at) task.operand || is_free t n next) ≡ true
        → NumberPut new task (pos d.value) (d.end - p.at) before put after → put ≡ true
        → after_spaces ≡ past_field s (place d.end 0 false)
        → read (fields_of after) after_spaces ≡ action_read t s n next (fields_of before) (entered_by s (not (same_kind (kind_of (task_of n.pattern).kind) exact)) p)
    is_taken kind bare inexact fits was_put held place_is =
        let put_is = rw (task_is, new_is) at was_put in
        let wide : is_free t n next ≡ false → d.end - p.at ≡ (task_of n.pattern).operand = λ f. eqb-true (d.end - p.at) (task_of n.pattern).operand (or_first (eqb (d.end - p.at) (task_of n.pattern).operand) (rw task_is at fits) f) in
        rw place_is
        (ap (λ (g : Fields). read g (past_field s (place d.end 0 false))) (put_is.put held)
        ∙ plainly t s n next (fields_of before) p d there (rw task_is at kind) bare inexact wide (put_is.unmixed held) (put_is.alone held))

-- node i of the nodes ns, where something of the input is left
module _ (t s : List ℕ) (ns : List Node) (whole : Reading) (i : ℕ) (f : Fields) (p : Place) (turned : Turned t s ns whole i f p) (h : i < length ns) (l : p.at < length s)
    (n : Node) (e : n ≡ get_or ns i end_node)
  where
    pub of_pattern
        : n.kind ≡ 1 → {g : Fields} {q : Place} → read g q ≡ action_read t s n (get_or ns (i + 1) end_node) f (entered_by s (not (same_kind (kind_of (task_of n.pattern).kind) exact)) p)
        → Turned t s ns whole (i + 1) g q
    unfolding node_read entered
    of_pattern k is = passes t s ns whole i f p turned h l n (get_or ns (i + 1) end_node) e refl _ _ (rw (eq-eqb n.kind 1 k) is)

    pub of_literal : (n.kind ≡ 1 → ⊥) → Turned t s ns whole (i + 1) f (literal_passed s n (entered_by s (eqb i 0) p))
    unfolding node_read entered
    of_literal k = passes t s ns whole i f p turned h l n (get_or ns (i + 1) end_node) e refl _ _ (rw (ne_eqb n.kind 1 k) refl)

    -- a character for which no skipped space can pay
    pub of_character : (at : ℕ) → p ≡ place at 0 false → n.kind ≡ 2 → (i ≡ 0 → ⊥) → Turned t s ns whole (i + 1) f (place (at + measure_of n.accents s at) 0 false)
    unfolding literal_passed
    of_character at q k later = rw (q, ne_eqb i 0 later, k) at (of_literal (λ z. absurd (omega (arith, k, z))))

-- a place without skipped spaces, before FX
pub settled : (p : Place) → p.extra ≡ 0 → p.fx ≡ 0 → p ≡ place p.at 0 false
settled p e x = λ i. record { at = p.at; extra = e i; fx = x i }

-- characters are read from a node up to another, where no skipped space is left
pub chars_end
    : {s : List ℕ} {ns : List Node} {from i at : ℕ} {p : Place} {r : Passed} → p.extra ≡ 0 → p.fx ≡ 0 → from ≤ i
    → ((t : List ℕ) (f : Fields) (whole : Reading) → Turned t s ns whole from f (place p.at 0 false) → Turned t s ns whole i f (place at 0 false))
    → r ≡ passed_at i at → CharsRead s ns from p r
chars_end {p = p} none exact on turns e =
    let from_place = settled p none exact in
    rw e (record { on = on; turned = λ t f whole turned. turns t f whole (rw (← from_place) turned) })

-- a node that is read, as the code answers
pub node_on
    : {t s : List ℕ} {ns : List Node} {i : ℕ} {before after : List ℤ} {p : Place} (r : Passed) → i < r.next
    → ((whole : Reading) → Turned t s ns whole i (fields_of before) p → Turned t s ns whole r.next (fields_of after) r.place)
    → NodeTook t s ns i before p (Some r) after
node_on {t} {s} {ns} {i} {before} {after} {p} r on turned =
    record {
      on = λ q e. subst (λ (q : Passed). i < q.next) (same_Some r q e) on;
      left = λ e. absurd (none-some r (sym e));
      turned = λ q e.
          subst
          (λ (q : Passed). (whole : Reading) → Turned t s ns whole i (fields_of before) p → Turned t s ns whole q.next (fields_of after) q.place)
          (same_Some r q e) turned;
    }
