-- The table of tasks. Assumes nothing.
-- `assigned`: a number of the table, unpacked, is its pattern's task, and its field is one of the 24.
-- `mode_is`: what is above the task is the pattern's date mode.
-- `mode_small`: a date mode has 8 bits.
-- `each_task`: a test that passes at each entry of the table, and past it, passes for every pattern.
-- `past_row`: past the table there is nothing.
-- `number_apart`: a number does not go into the field of the date mode.
-- `same_kind_lem`: kinds that pass the test `same_kind` are the same.
-- `same_task_lem`: tasks that pass the test `same_task` are the same.
use mathlib.Core.Path.{◌≡◌, ◌∙◌, refl, sym, ap}
use mathlib.Core.Bool.{Bool, true, false, not, ◌&&◌, true≢false}
use Prim.Native.Nat.{ℕ, ◌/◌, ◌%◌, ◌<◌, ◌≤◌}
use borrow.Author.Tests.{eqb-true, eq-eqb, ltb-true, ltb-false}
use lib.Dec.{eqb, ltb}
use lib.ListN.{get_or-eq_default}
use Rattle.base_notation.proofs.Cases.{both}
use Rattle.base_notation.proofs.Table.{all_from, entry}
use Rattle.template_patterns.specs.Patterns.{Pattern, patterns, pattern_of}
use Rattle.read_fields.specs.Tasks.{Assigned, kind_of, kind_number, nothing, number, row_of, same_kind, task, task_of}
use Rattle.read_fields.specs.declared.Kind.{Kind}
use Rattle.read_fields.specs.declared.Kind.TheVariants.{Nothing, Exact, Number, Word, Dropped, CommaYear, Offset, OffsetMinutes}
use Rattle.read_fields.specs.declared.Task.{Task}

-- the task that is packed into a number
abbrev pub unpacked : ℕ → Task
unpacked x = record { kind = x / 32 % 8; field = x % 32; rule = x / 256 % 16; operand = x / 4096 % 16 }

-- a kind by its own number
kind_back : (k : Kind) → kind_of (kind_number k) ≡ k
kind_back Nothing = refl
kind_back Exact = refl
kind_back Number = refl
kind_back Word = refl
kind_back Dropped = refl
kind_back CommaYear = refl
kind_back Offset = refl
kind_back OffsetMinutes = refl

pub same_kind_lem : (a b : Kind) → same_kind a b ≡ true → a ≡ b
same_kind_lem a b e = sym (kind_back a) ∙ ap kind_of (eqb-true _ _ e) ∙ kind_back b

-- two tasks are the same, as a test that computes
abbrev pub same_task : Task → Task → Bool
same_task a b = eqb a.kind b.kind && (eqb a.field b.field && (eqb a.rule b.rule && eqb a.operand b.operand))

pub same_task_lem : (a b : Task) → same_task a b ≡ true → a ≡ b
same_task_lem a b e =
    let on_kind = both (eqb a.kind b.kind) _ e in
    let on_field = both (eqb a.field b.field) _ on_kind.1 in
    let on_rule = both (eqb a.rule b.rule) _ on_field.1 in
    let kind = eqb-true a.kind b.kind on_kind.0 in
    let field = eqb-true a.field b.field on_field.0 in
    let rule = eqb-true a.rule b.rule on_rule.0 in
    let operand = eqb-true a.operand b.operand on_rule.1 in
    λ i. record { kind = kind i; field = field i; rule = rule i; operand = operand i }

-- the number x is right for the pattern k: its task, one of the 24 fields, its date mode; and a number goes into
-- another field than that of the mode
abbrev right : ℕ → ℕ → Bool
right k x =
    same_task (unpacked x) (task_of k)
    && (ltb (unpacked x).field 24 && (eqb (x / 65536) (pattern_of k).mode && (ltb (x / 65536) 256 && not (same_kind (kind_of (task_of k).kind) number && eqb (task_of k).field 0))))

-- past the table all patterns are alike
past_table : (k : ℕ) → 112 ≤ k → pattern_of k ≡ pattern_of 112
past_table k h = get_or-eq_default patterns (pattern_of 112) h

pub past_row : (k : ℕ) → 112 ≤ k → row_of k ≡ 0
unfolding task_of
past_row k h = rw (past_table k h)

-- a test that each task of the table passes, and the task of what is past it, is passed by all
pub each_task : (test : Task → Bool) → all_from (λ (i : ℕ) (p : Pattern). test (task_of i)) 0 patterns ≡ true → test (task nothing 0 0 0) ≡ true → (k : ℕ) → test (task_of k) ≡ true
unfolding task_of
each_task test passed past k =
    (elim (ltb k 112) as (λ q. ltb k 112 ≡ q → test (task_of k) ≡ true) [
      | true ↦ λ e. entry (λ (i : ℕ) (p : Pattern). test (task_of i)) (pattern_of 112) patterns passed k (ltb-true _ _ e)
      | false ↦ λ e. rw (past_table k (ltb-false _ _ e)) past
    ]) refl

-- all numbers are right: the test computes
all_right : (k : ℕ) → right k (row_of k) ≡ true
unfolding task_of
all_right k =
    (elim (ltb k 112) as (λ q. ltb k 112 ≡ q → right k (row_of k) ≡ true) [
      | true ↦ λ e. entry (λ (i : ℕ) (p : Pattern). right i (row_of i)) (pattern_of 112) patterns refl k (ltb-true _ _ e)
      | false ↦ λ e. rw (past_table k (ltb-false _ _ e)) refl
    ]) refl

module _ (k : ℕ) where
  abbrev x : ℕ
  x = row_of k

  pub assigned : Assigned k (unpacked x)
  assigned =
      let on_task = both (same_task (unpacked x) (task_of k)) _ (all_right k) in
      record { is = same_task_lem _ _ on_task.0; known = ltb-true _ _ (both (ltb (unpacked x).field 24) _ on_task.1).0 }

  rest : (eqb (x / 65536) (pattern_of k).mode && (ltb (x / 65536) 256 && not (same_kind (kind_of (task_of k).kind) number && eqb (task_of k).field 0))) ≡ true
  rest = (both (ltb (unpacked x).field 24) _ (both (same_task (unpacked x) (task_of k)) _ (all_right k)).1).1

  pub mode_is : x / 65536 ≡ (pattern_of k).mode
  mode_is = eqb-true _ _ (both (eqb (x / 65536) (pattern_of k).mode) _ rest).0

  pub mode_small : x / 65536 < 256
  mode_small = ltb-true _ _ (both (ltb (x / 65536) 256) _ (both (eqb (x / 65536) (pattern_of k).mode) _ rest).1).0

  pub number_apart : kind_of (task_of k).kind ≡ number → (task_of k).field ≡ 0 → ⊥
  number_apart e z = absurd (true≢false (sym (both (ltb (x / 65536) 256) _ (both (eqb (x / 65536) (pattern_of k).mode) _ rest).1).1 ∙ rw (e, eq-eqb _ _ z) refl))
