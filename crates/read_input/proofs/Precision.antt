-- The digits of a fraction, as fields keep them, are 0 to 6, whatever the nodes and the input. Assumes nothing.
-- `Precise`: the field has a number from 0 to 6.
-- `read_precise`: so it is in the fields that any nodes read.
use Rattle.std.specs.Prelude.{Err, Ok, Result, ⊤, None, Some, Option}
use mathlib.Core.Path.{◌≡◌, refl, ◌∙◌}
use mathlib.Core.Bool.{Bool, true, false, not, ◌&&◌, ◌||◌}
use mathlib.Core.List.{List, [], ◌∷◌}
use Prim.Native.Char.{code}
use Prim.Native.Nat.{ℕ, ◌-◌, ◌≤◌, ◌<◌}
use native.Mathlib.Omega.{arith}
use borrow.Author.Tests.{ltb-true, ltb-false}
use lib.Dec.{eqb, ltb, lit<}
use lib.IntN.{ℤ, pos}
use lib.ListN.{length}
use lib.Seq.{get_or-set_same, get_or-set_other, set_out}
use Rattle.base_notation.specs.Text.{byte_at}
use Rattle.base_chars.specs.Class.{is_letter}
use Rattle.base_notation.proofs.Cases.{by_if, both}
use Rattle.read_integers.specs.Suffix.{is_free}
use Rattle.read_integers.specs.declared.Number.{Number}
use Rattle.template_patterns.specs.Patterns.{pattern_of}
use Rattle.template_nodes.specs.Template.{action}
use Rattle.template_nodes.specs.declared.Node.{Node}
use Rattle.read_fields.specs.Fields.{conflicts, get, put, no_fields, onward, is_zero, mode, clock, yysz, tzsign, tzh, tzm, ff}
use Rattle.read_fields.specs.Tasks.{number, comma_year, kind_of, same_kind, fraction, hour12, whole_year, part_year, odd_hour12, hours, no_letter, task_of}
use Rattle.read_fields.proofs.Assigned.{each_task}
use Rattle.read_fields.specs.declared.Fields.{Fields}
use Rattle.read_fields.specs.declared.Kind.TheVariants as K
use Rattle.read_fields.specs.declared.Place.{Place}
use Rattle.read_fields.specs.declared.Reading.{Reading}
use Rattle.read_fields.specs.declared.Task.{Task}
use Rattle.read_numbers.specs.Numbers.{kept, noted, stored_number, dropped_number}
use Rattle.read_words.specs.Words.{meant, kept_word, noted_word, stored_word}
use Rattle.read_words.specs.declared.spelling.Word.{Word}
use Rattle.read_offsets.specs.Offsets.{stored_offset, colon_minutes, then_minutes, read_offset, sign_of, with_sign}
use Rattle.read_literals.specs.Literals.{place}
use Rattle.read_input.specs.Reader.{mixes, with_mode, by_kind, performed, past_spaces, when_read, action_read, entered, node_read, head_of, read_from, read_all}
use Rattle.base_refusals.specs.declared.Refusal.{Refusal}

pub record Precise (f : Fields) : Type 0 where
  pub at : ℕ
  pub is : get f ff ≡ pos at
  pub to : at ≤ 6

-- of what was read
abbrev PreciseIn : Reading → Type 0
PreciseIn r = Precise r.fields

-- no field was read
none : Precise no_fields
none = record { at = 0; is = refl; to = omega arith }

-- another field is set
module _ (f : Fields) (h : Precise f) where
  other : (k : ℕ) (z : ℤ) → k < 23 → Precise (put f k z)
  other k z l = record { at = h.at; is = get_or-set_other f.values k ff z (pos 0) (λ e. omega arith) ∙ h.is; to = h.to }

  -- the digits themselves are set
  digits : (n : ℕ) → n ≤ 6 → Precise (put f ff (pos n))
  digits n l = split (ltb ff (length f.values)) refl
    where
      split : (b : Bool) → ltb ff (length f.values) ≡ b → Precise (put f ff (pos n))
      split true e = record { at = n; is = get_or-set_same f.values ff (pos n) (pos 0) (ltb-true _ _ e); to = l }
      split false e = record { at = h.at; is = rw (set_out f.values ff (pos n) (ltb-false _ _ e)) h.is; to = h.to }

-- a task sets another field, and one that notes the digits of a fraction has at most 6
abbrev takes_number : Task → Bool
takes_number t = same_kind (kind_of t.kind) number || same_kind (kind_of t.kind) comma_year

abbrev precise : Task → Bool
precise t = ltb t.field 23 && (not (takes_number t && eqb t.rule fraction) || ltb t.operand 7)

task_precise : (k : ℕ) → precise (task_of k) ≡ true
unfolding task_of
task_precise = each_task precise refl refl

-- what else a number notes, and a word; the sign of an offset; the date mode
noted_precise : (rule width : ℕ) (f : Fields) → (eqb rule fraction ≡ true → width ≤ 6) → Precise f → Precise (noted rule width f)
unfolding noted
noted_precise rule width f few h =
    by_if Precise (eqb rule hour12) _ _ (λ e. other f h clock (pos 12) (lit< tt))
    (λ e. by_if Precise (eqb rule whole_year) _ _ (λ e. other f h yysz (pos 4) (lit< tt))
    (λ e. by_if Precise (eqb rule part_year) _ _ (λ e. other f h yysz (pos width) (lit< tt))
    (λ e. by_if Precise (eqb rule fraction) _ _ (λ e. digits f h width (few e)) (λ e. h))))

word_noted : (rule : ℕ) (f : Fields) → Precise f → Precise (noted_word rule f)
word_noted rule f h = by_if Precise (eqb rule odd_hour12) _ _ (λ e. other f h clock (pos 12) (lit< tt)) (λ e. h)

signed : (f : Fields) → Precise f → Precise (with_sign f)
signed f h = by_if Precise (is_zero (get f tzsign)) _ _ (λ e. other f h tzsign (pos 1) (lit< tt)) (λ e. h)

in_mode : (new : ℕ) (f : Fields) → Precise f → Precise (with_mode new f)
in_mode new f h = by_if Precise (eqb new 0) _ _ (λ e. h) (λ e. other f h mode (pos new) (lit< tt))

-- a number or a word that is stored
module _ (s : List ℕ) (n : Node) (f : Fields) (p : Place) (h : Precise f) where
  stored_number_lem : (task : Task) → task.field < 23 → (eqb task.rule fraction ≡ true → task.operand ≤ 6) → (z : Result Number Refusal)
      → PreciseIn (stored_number s n task z f p)
  unfolding stored_number
  stored_number_lem task l few (Err why) = h
  stored_number_lem task l few (Ok z) =
      by_if PreciseIn (conflicts (get f task.field) z.value) _ _ (λ e. h)
      (λ e. noted_precise task.rule task.operand _ few (other f h task.field (kept task.rule z.value (z.next - p.at)) l))

  dropped_number_lem : (z : Result Number Refusal) → PreciseIn (dropped_number s n z f p)
  unfolding dropped_number
  dropped_number_lem (Err why) = h
  dropped_number_lem (Ok z) = h

  stored_word_lem : (task : Task) → task.field < 23 → (w : Option Word) → PreciseIn (stored_word n task w f p)
  unfolding stored_word
  stored_word_lem task l None = h
  stored_word_lem task l (Some w) =
      let z = meant task.rule w.index in
      by_if PreciseIn (conflicts (get f task.field) (pos z)) _ _ (λ e. h)
      (λ e. word_noted task.rule _ (other f h task.field (pos (kept_word task.rule z)) l))

  stored_offset_lem : (field : ℕ) → field < 23 → (z : Result Number Refusal) → PreciseIn (stored_offset n field z f p)
  unfolding stored_offset
  stored_offset_lem field l (Err why) = h
  stored_offset_lem field l (Ok z) = by_if PreciseIn (conflicts (get f field) z.value) _ _ (λ e. h) (λ e. other f h field z.value l)

-- one reading after another
went_on : (v : Result ⊤ Refusal) (r rest : Reading) → PreciseIn r → PreciseIn rest → PreciseIn (onward v r rest)
went_on (Ok tt) r rest h k = k
went_on (Err why) r rest h k = h

-- an offset: hours, then minutes
module _ (s : List ℕ) (n : Node) (free : Bool) where
  colon_minutes_lem : (rule : ℕ) (f : Fields) (p : Place) → Precise f → PreciseIn (colon_minutes s n free rule f p)
  unfolding colon_minutes
  colon_minutes_lem rule f p h =
      by_if PreciseIn (not (eqb rule hours) && eqb (byte_at s p.at) (code ":")) _ _ (λ e. stored_offset_lem s n f p h tzm (lit< tt) _) (λ e. h)

  then_minutes_lem : (rule : ℕ) (r : Reading) → PreciseIn r → PreciseIn (then_minutes s n free rule r)
  unfolding then_minutes
  then_minutes_lem rule r h = went_on r.verdict r _ h (colon_minutes_lem rule r.fields r.place h)

  read_offset_lem : (task : Task) (f : Fields) (p : Place) → Precise f → PreciseIn (read_offset s n free task f p)
  unfolding read_offset
  read_offset_lem task f p h =
      by_if PreciseIn (eqb task.rule no_letter && is_letter (byte_at s p.at)) _ _ (λ e. h)
      (λ e. then_minutes_lem task.rule _ (stored_offset_lem s n (put f tzsign (sign_of s p)) p (other f h tzsign (sign_of s p) (lit< tt)) tzh (lit< tt) _))

  -- a pattern, by the kind of its task
  performed-precise : (task : Task) → precise task ≡ true → (f : Fields) (p : Place) → Precise f → PreciseIn (performed s n free task f p)
  unfolding performed
  performed-precise task t f p h =
      let tests = both (ltb task.field 23) _ t in
      let field = ltb-true task.field 23 tests.0 in
      let stored : takes_number task ≡ true → (z : Result Number Refusal) → PreciseIn (stored_number s n task z f p)
      = λ taken. stored_number_lem s n f p h task field (λ e. let small = ltb-true task.operand 7 (rw (taken, e) at tests.1) in omega arith)
      in
      (elim (kind_of task.kind) as (λ k. kind_of task.kind ≡ k → PreciseIn (by_kind k s n free task f p)) [
        | K.Nothing ↦ λ k. h
        | K.Exact ↦ λ k. h
        | K.Number ↦ λ k. stored (rw k refl) _
        | K.Word ↦ λ k. stored_word_lem s n f p h task field _
        | K.Dropped ↦ λ k. dropped_number_lem s n f p h _
        | K.CommaYear ↦ λ k. stored (rw k refl) _
        | K.Offset ↦ λ k. read_offset_lem task f p h
        | K.OffsetMinutes ↦ λ k. stored_offset_lem s n (with_sign f) p (signed f h) tzm (lit< tt) _
      ]) refl

-- a node, and all of them
module _ (t s : List ℕ) where
  when_read_lem : (v : Result ⊤ Refusal) (r : Reading) (p : Place) → PreciseIn r → PreciseIn (when_read v (past_spaces s r) p)
  unfolding past_spaces
  when_read_lem (Ok tt) r p h = h
  when_read_lem (Err why) r p h = none

  action_read_lem : (n next : Node) (f : Fields) (p : Place) → Precise f → PreciseIn (action_read t s n next f p)
  unfolding action_read
  action_read_lem n next f p h =
      let new = (pattern_of n.pattern).mode in
      let r = performed s n (is_free t n next) (task_of n.pattern) (with_mode new f) p in
      by_if PreciseIn (mixes new (get f mode)) _ _ (λ e. none)
      (λ e. when_read_lem r.verdict r p
      (performed-precise s n (is_free t n next) (task_of n.pattern) (task_precise n.pattern) (with_mode new f) p (in_mode new f h)))

  node_read_lem : (n next : Node) (first : Bool) (f : Fields) (p : Place) → Precise f → PreciseIn (node_read t s n next first f p)
  unfolding node_read
  node_read_lem n next first f p h =
      by_if PreciseIn (eqb n.kind action) _ _ (λ e. action_read_lem n next f (entered s n first p) h) (λ e. h)

  from : (ns : List Node) (first : Bool) (f : Fields) (p : Place) → Precise f → PreciseIn (read_from t s ns first f p)
  unfolding read_from
  from [] first f p h = h
  from (n ∷ ns) first f p h =
      let r = node_read t s n (head_of ns) first f p in
      let is_precise = node_read_lem n (head_of ns) first f p h in
      by_if PreciseIn (ltb p.at (length s)) _ _
      (λ e. went_on r.verdict r _ is_precise (from ns false r.fields r.place is_precise)) (λ e. h)

  pub read_precise : (ns : List Node) → PreciseIn (read_all t s ns)
  unfolding read_all
  read_precise ns = from ns true no_fields (place 0 0 false) none
