-- Reading a pattern at what spells its piece. Assumes nothing.
-- `pattern_step`: where the piece's field is absent and no other date mode was set, it sets what the piece sets, and
-- skips the spaces after it.
use mathlib.Core.Path.{◌≡◌, refl}
use mathlib.Core.Bool.{Bool, true, false}
use mathlib.Core.List.{List, [], ◌∷◌, ◌++◌, map}
use Prim.Native.Nat.{ℕ, ◌+◌, ◌-◌, ◌≤◌}
use native.Mathlib.Nat.{add-zero, zero-add}
use native.Mathlib.Omega.{arith}
use borrow.Author.Tests.{eq-eqb, ne_eqb}
use lib.Dec.{eqb}
use lib.IntN.{pos}
use lib.ListN.{length, drop}
use lib.Seq.{get_or-set_other}
use Rattle.base_notation.proofs.Cases.{by_if}
use Rattle.base_chars.specs.Fold.{folded}
use Rattle.read_integers.specs.Suffix.{is_free, past_ordinal}
use Rattle.calendar_gregorian.proofs.Dates.{each}
use Rattle.read_fields.specs.Fields.{get, put, read, mode}
use Rattle.read_numbers.specs.Numbers.{stored_number}
use Rattle.read_literals.specs.Literals.{place}
use Rattle.read_input.specs.Reader.{mixes, with_mode, performed, past_spaces, action_read, entered, node_read}
use Rattle.read_fields.specs.Tasks.{exact, kind_number, kind_of, number, same_kind, word}
use Rattle.read_fields.proofs.Assigned.{same_kind_lem}
use Rattle.read_words.specs.Words.{stored_word}
use Rattle.read_fields.specs.declared.Fields.{Fields}
use Rattle.base_strtol.specs.Decimal.{decimal}
use Rattle.base_strtol.proofs.Decimals.{decimal-length}
use Rattle.base_strtol.specs.Runs.{digits, spaces}
use Rattle.template_nodes.specs.Template.{action}
use Rattle.template_nodes.specs.declared.Node.{Node}
use Rattle.write_pieces.specs.Moment.{moment}
use Rattle.readback.proofs.MomentFacts.{IsMoment}
use Rattle.write_pieces.specs.Pieces.{width_of, number_of, piece_of}
use Rattle.write_pieces.specs.declared.Moment.{Moment}
use Rattle.readback.proofs.FieldSettings.{settings, filled_by}
use Rattle.readback.proofs.Ahead.{ink_spaces}
use Rattle.readback.proofs.Known.{task_for, mode_for}
use Rattle.readback.proofs.Literals.{Left, left_past}
use Rattle.readback.proofs.Numbers.{number_read}
use Rattle.readback.proofs.Sound.{Pattern, bare}
use Rattle.readback.proofs.Texts.{SpellsPiece, a_number, a_word, all_fit, spelled_written, width_some, word_for}
use Rattle.readback.proofs.PieceNumbers.{number_small, number_kept, number_stored, word_stored, word_kept}
use Rattle.readback.proofs.Words.{word_read}

-- the pieces 1 to 13 are numbers
record IsNumber (p : ℕ) : Type 0 where
  kind : kind_number (kind_of (task_for p).kind) ≡ kind_number number
  operand : (task_for p).operand ≡ width_of p

is_number : (p : ℕ) → 1 ≤ p → p ≤ 13 → IsNumber p
is_number = each IsNumber 1 12 (omega arith)

-- and 14 to 17 are words
is_word : (p : ℕ) → 14 ≤ p → p ≤ 17 → kind_of (task_for p).kind ≡ word
is_word p from to =
    same_kind_lem _ _ (eq-eqb _ _ (each (λ p. kind_number (kind_of (task_for p).kind) ≡ kind_number word) 14 3 (omega arith) p from to))

-- none is FX
no_exact : (p : ℕ) → 1 ≤ p → p ≤ 17 → same_kind (kind_of (task_for p).kind) exact ≡ false
no_exact p from to =
    ne_eqb _ _ (each (λ p. kind_number (kind_of (task_for p).kind) ≡ kind_number exact → ⊥) 1 16 (omega arith) p from to)

-- the date mode is no field of a piece
mode_apart : (p : ℕ) → 1 ≤ p → p ≤ 17 → (f : Fields) → get (with_mode (mode_for p) f) (task_for p).field ≡ get f (task_for p).field
mode_apart p from to f =
    by_if (λ (g : Fields). get g (task_for p).field ≡ get f (task_for p).field) (eqb (mode_for p) 0) f (put f mode (pos (mode_for p)))
    (λ e. refl) (λ e. get_or-set_other f.values mode (task_for p).field (pos (mode_for p)) (pos 0) (apart p from to))
  where
    apart : (p : ℕ) → 1 ≤ p → p ≤ 17 → (task_for p).field ≡ mode → ⊥
    apart = each (λ p. (task_for p).field ≡ mode → ⊥) 1 16 (omega arith)

module _ (s : List ℕ) {y mo d h mi sec us : ℕ} (is : IsMoment y mo d h mi sec us) (n : Node) where
  abbrev now : Moment
  now = moment y mo d h mi sec us

  module _ (p : ℕ) (from : 1 ≤ p) (f : Fields) (absent : get f (task_for p).field ≡ pos 0) (x v : List ℕ) (at : ℕ) (here : drop at s ≡ x ++ v) where
    -- the piece's task sets what the piece sets, and ends after what spells it
    abbrev Performs : Bool → Type 0
    Performs free =
        performed s n free (task_for p) (with_mode (mode_for p) f) (place at 0 false) ≡ read (filled_by settings (p ∷ []) now f) (place (at + length x) 0 false)

    number_performed : (free : Bool) → (free ≡ true → digits v ≡ 0) → p ≤ 13 → n.suffix ≡ 0 → x ≡ decimal (width_of p) (number_of p now) → Performs free
    unfolding performed stored_number past_ordinal
    number_performed free stops to bare e =
        let task = is_number p from to in
        let kind : kind_of (task_for p).kind ≡ number = same_kind_lem _ _ (eq-eqb _ _ task.kind) in
        let small = number_small is p from to in
        let taken : at + width_of p - at ≡ width_of p = omega arith in
        let size : length x ≡ width_of p = rw e (decimal-length (width_of p) (number_of p now)) in
        rw (
          kind,
          kind,
          task.operand,
          number_read s v at (width_of p) (number_of p now) n.pattern (width_some p from to) small.0 small.1 (rw e at here) free stops,
          mode_apart p from (omega arith) f,
          absent,
          taken,
          number_kept is p from to,
          bare,
          number_stored now f p from to,
          size,
        )

    word_performed : (free : Bool) → 14 ≤ p → p ≤ 17 → map folded x ≡ word_for p now → Performs free
    unfolding performed stored_word
    word_performed free low to e =
        rw (
          is_word p low to,
          word_read (all_fit is p low to) x e s v at here,
          mode_apart p from to f,
          absent,
          word_kept is p low to,
          word_stored now f p low to,
        )

    -- after a number that is read with all its digits no digit may follow, and it may have no suffix
    piece_performed : (free : Bool) → (p ≤ 13 → (n.suffix ≡ 0) × (free ≡ true → digits v ≡ 0)) → SpellsPiece p now x → Performs free
    piece_performed free stops (a_number to e) = number_performed free (stops to).1 to (stops to).0 e
    piece_performed free stops (a_word low to e) = word_performed free low to e

  -- the whole node: spaces are skipped before its text, where there are none, and after it
  pub pattern_step : (t : List ℕ) (next : Node) (first : Bool) (k : Pattern n) (f : Fields) (x v : List ℕ) (at : ℕ)
      → SpellsPiece (piece_of n.pattern) now x
      → Left s at (x ++ v)
      → (piece_of n.pattern ≤ 13 → is_free t n next ≡ true → digits v ≡ 0)
      → get f (task_for (piece_of n.pattern)).field ≡ pos 0
      → mixes (mode_for (piece_of n.pattern)) (get f mode) ≡ false
      → node_read t s n next first f (place at 0 false)
      ≡ read (filled_by settings (piece_of n.pattern ∷ []) now f) (place (at + length x + spaces v) (spaces v) false)
  unfolding node_read entered action_read past_spaces
  pattern_step t next first k f x v at w h stops absent unmixed =
      let p = piece_of n.pattern in
      let none : spaces (drop at s) ≡ 0 = rw h.is (ink_spaces x v (spelled_written is k.some w).ink) in
      let after : drop (at + length x) s ≡ v = (left_past x v h).is in
      let sets = piece_performed p k.some f absent x v at h.is (is_free t n next) (λ to. (bare k to, stops to)) w in
      rw (
        eq-eqb n.kind action k.is_action,
        k.reads.does,
        no_exact p k.some (omega (arith, k.reads.piece)),
        none,
        add-zero at,
        k.reads.mode,
        unmixed,
        sets,
        after,
        zero-add (spaces v),
      )
