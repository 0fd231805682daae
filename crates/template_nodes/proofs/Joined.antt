-- The nodes of the accents mode are those of the other with each mark joined to the letter right before it. Assumes
-- nothing.
-- `by_what_is_before`: the theorem, for every template.
-- `in_both_modes`: so what does not change by joining (`Kept`) is the same in both modes.
-- The idea: a step of one mode is the same in the other (`Pair`), but for a letter, which has its marks at once in the
-- accents mode (`a_letter`). In the other mode the steps after the letter make a node of each of these marks
-- (`mark_step`), and joining puts them together again (`run`).
use mathlib.Core.Path.{◌≡◌, ◌∙◌, refl, sym, ap}
use mathlib.Core.Bool.{Bool, true, false, not, ◌&&◌, false≢true}
use mathlib.Core.List.{List, [], ◌∷◌, ◌++◌, map}
use Prim.Native.Nat.{ℕ, zero, suc, ◌+◌, ◌≤◌}
use native.Mathlib.Nat.{add_assoc, add-zero}
use native.Mathlib.Omega.{arith}
use borrow.Author.Tests.{eqb-true, eq-eqb, lt-ltb, ltb-true, ltb-false, ne_eqb, not-true}
use lib.Dec.{eqb, ltb}
use lib.ListN.{length, drop}
use Rattle.std.specs.Prelude.{Option, None, Some}
use Rattle.base_notation.specs.Choice.{when◌then◌else◌}
use Rattle.base_notation.specs.Text.{byte_at}
use Rattle.base_notation.proofs.Cases.{both}
use Rattle.base_accents.specs.Accents.{letter_at, mark_at, marks, measure_of}
use Rattle.base_accents.proofs.Marks.{mark_bytes, mark_there, marks_on, marks_stop}
use Rattle.base_accents.proofs.Measures.{mark_char}
use Rattle.base_chars.specs.Character.{char_length}
use Rattle.base_chars.proofs.Classes.{wide_class}
use Rattle.template_patterns.specs.Affixes.{affix_length, bit_at}
use Rattle.template_patterns.specs.Search.{pattern_at}
use Rattle.template_patterns.specs.declared.Found.{Found}
use Rattle.template_patterns.proofs.Search.{head_range, none_outside}
use Rattle.template_nodes.specs.Joined.{ByWhatIsBefore, follows, is_letter, is_mark, joined, joined_to, longer}
use Rattle.template_nodes.specs.Template.{action, backslash, char_at, char_place, character, element_of, in_mode, kind_of, literal, literal_at, made_by, make, nodes_by, nodes_from, nodes_of, plain_at, quote, skip, step_at}
use Rattle.template_nodes.specs.declared.Node.{Node}
use Rattle.template_nodes.specs.declared.Step.{Step}
use Rattle.template_nodes.proofs.Cover.{no_pattern, step_taken}
use Rattle.template_nodes.proofs.Turns.{after_end, one}

module _ (t : List ℕ) where
  -- a step of the accents mode beside one of the other
  data Pair : Step → Step → Type 0 where
    no_node : (next : ℕ) (quoted : Bool) → Pair (skip next quoted) (skip next quoted)
    no_letter_lem : (n : Node) (next : ℕ) (quoted : Bool) → is_letter t n ≡ false → Pair (make (in_mode true n) next quoted) (make n next quoted)
    a_letter : (p kind : ℕ) (quoted : Bool) → eqb kind action ≡ false → letter_at t p ≡ true → Pair (char_at true t p kind quoted) (char_at false t p kind quoted)

  char_pair : (p kind : ℕ) (quoted : Bool) → eqb kind action ≡ false → Pair (char_at true t p kind quoted) (char_at false t p kind quoted)
  unfolding measure_of
  char_pair p kind quoted k =
      (elim (letter_at t p) as (λ l. letter_at t p ≡ l → Pair (char_at true t p kind quoted) (char_at false t p kind quoted)) [
        | true ↦ λ l. a_letter p kind quoted k l
        | false ↦ λ l. rw l (no_letter_lem (literal kind p (char_length t p)) (p + char_length t p) quoted (rw (k, l)))
      ]) refl

  literal_pair : (at : ℕ) (quoted : Bool) → Pair (literal_at true t at quoted) (literal_at false t at quoted)
  unfolding literal_at
  literal_pair at quoted =
      let p = char_place t at quoted in
      let kind : ℕ = when quoted then character else kind_of (byte_at t p) in
      (elim (eqb (byte_at t at) quote) as (λ c. Pair (when c then skip (at + 1) (not quoted) else char_at true t p kind quoted) (when c then skip (at + 1) (not quoted) else char_at false t p kind quoted)) [
        | true ↦ no_node (at + 1) (not quoted)
        | false ↦ char_pair p kind quoted (ne_eqb kind action (no_pattern quoted (byte_at t p)))
      ])

  element_pair : (at prefix : ℕ) (f : Option Found) → Pair (element_of true f t at prefix) (element_of false f t at prefix)
  element_pair at prefix None = literal_pair at false
  element_pair at prefix (Some f) = no_letter_lem _ _ false refl

  plain_pair : (at : ℕ) → Pair (plain_at true t at) (plain_at false t at)
  unfolding plain_at
  plain_pair at =
      let prefix = bit_at true t at in
      let start = at + affix_length prefix in
      let e : Bool → Step = λ accents. element_of accents (pattern_at t start) t start prefix in
      (elim (ltb start (length t)) as (λ c. Pair (when c then e true else skip start false) (when c then e false else skip start false)) [
        | true ↦ element_pair start prefix (pattern_at t start)
        | false ↦ no_node start false
      ])

  step_pair : (at : ℕ) (quoted : Bool) → Pair (step_at true t at quoted) (step_at false t at quoted)
  unfolding step_at
  step_pair at true = literal_pair at true
  step_pair at false = plain_pair at

  -- outside ASCII no affix begins
  wide_affix : (at : ℕ) → 0x80 ≤ byte_at t at → bit_at true t at ≡ 0
  unfolding bit_at
  wide_affix at h = simp (ne_eqb (byte_at t at) 70 (omega arith), ne_eqb (byte_at t at) 102 (omega arith), ne_eqb (byte_at t at) 84 (omega arith), ne_eqb (byte_at t at) 116 (omega arith))

  -- where a mark is, a step of the other mode makes it a node
  module _ (at : ℕ) (e : mark_at t at ≡ true) where
    abbrev b : ℕ
    b = byte_at t at

    wide : 0x80 ≤ b
    unfolding mark_at
    wide = omega (arith, (mark_bytes b (byte_at t (at + 1)) e).first_from)

    mark_literal : (quoted : Bool) → literal_at false t at quoted ≡ make (literal character at 2) (at + 2) quoted
    unfolding literal_at char_place kind_of measure_of
    mark_literal true = rw (ne_eqb b quote (omega (arith, wide)), ne_eqb b backslash (omega (arith, wide)), mark_char t at e)
    mark_literal false = rw (ne_eqb b quote (omega (arith, wide)), ne_eqb b backslash (omega (arith, wide)), wide_class b wide, mark_char t at e)

    mark_step : (quoted : Bool) → step_at false t at quoted ≡ make (literal character at 2) (at + 2) quoted
    unfolding step_at plain_at
    mark_step true = mark_literal true
    mark_step false =
        let none : pattern_at t at ≡ None = none_outside t at (λ j h q. omega (arith, (head_range j h).1, wide, q)) in
        rw (wide_affix at wide, add-zero at, lt-ltb at (length t) (omega (arith, mark_there t at e)), none) (mark_literal false)

  -- fuel that is enough gives the same nodes
  same_fuel : (accents : Bool) (f g at : ℕ) (quoted : Bool) → length t ≤ at + f → length t ≤ at + g → nodes_from accents f t at quoted ≡ nodes_from accents g t at quoted
  same_fuel accents zero g at quoted h k = after_end accents t zero at quoted (omega arith) ∙ sym (after_end accents t g at quoted (omega arith))
  same_fuel accents (suc f) zero at quoted h k = after_end accents t (suc f) at quoted (omega arith) ∙ sym (after_end accents t zero at quoted (omega arith))
  same_fuel accents (suc f) (suc g) at quoted h k =
      (elim (ltb at (length t)) as (λ c. ltb at (length t) ≡ c → nodes_from accents (suc f) t at quoted ≡ nodes_from accents (suc g) t at quoted) [
        | true ↦ λ c.
            let inside = ltb-true at (length t) c in
            let s = step_at accents t at quoted in
            let taken = step_taken accents t at quoted inside in
            one accents t f at quoted s refl inside
            ∙ ap (λ (ns : List Node). made_by s ++ ns) (same_fuel accents f g s.next s.quoted (omega (arith, taken.on)) (omega (arith, taken.on)))
            ∙ sym (one accents t g at quoted s refl inside)
        | false ↦ λ c. after_end accents t (suc f) at quoted (ltb-false _ _ c) ∙ sym (after_end accents t (suc g) at quoted (ltb-false _ _ c))
      ]) refl

  -- where what follows is no mark right after a letter, nothing is joined
  stays : (m : Node) (ns : List Node) → ((n : Node) → (is_letter t m && (is_mark t n && follows m n)) ≡ false) → joined_to t m ns ≡ m ∷ joined t ns
  unfolding joined_to
  stays m [] h = refl
  stays m (n ∷ ns) h = rw (h n)

  -- a letter before a place, and the marks from there on as nodes of the other mode: they are joined to it
  abbrev Runs : ℕ → ℕ → ℕ → Bool → Node → Type 0
  Runs f g a quoted m =
      joined_to t m (nodes_from false f t a quoted) ≡ longer m (marks (drop a t)) ∷ joined t (nodes_from false g t (a + marks (drop a t)) quoted)

  -- where no mark is, none is joined
  none : (m n : Node) → mark_at t (m.start + m.len) ≡ false → (is_letter t m && (is_mark t n && follows m n)) ≡ false
  none m n c =
      (elim (is_letter t m && (is_mark t n && follows m n)) as (λ x. (is_letter t m && (is_mark t n && follows m n)) ≡ x → x ≡ false) [
        | true ↦ λ x.
            let tests = both (is_mark t n) _ (both (is_letter t m) _ x).1 in
            absurd (false≢true (sym c ∙ rw (eqb-true n.start (m.start + m.len) tests.1) at (both (not (eqb n.kind action)) (mark_at t n.start) tests.0).1))
        | false ↦ λ x. refl
      ]) refl

  unmarked : (f g a : ℕ) (quoted : Bool) (m : Node) → m.start + m.len ≡ a → length t ≤ a + f → length t ≤ a + g → mark_at t a ≡ false → Runs f g a quoted m
  unmarked f g a quoted m q h k c =
      rw (
        marks_stop t a c,
        add-zero m.len,
        add-zero a,
        stays m (nodes_from false f t a quoted) (λ n. none m n (rw q c)),
        same_fuel false f g a quoted h k,
      )

  run : (f g a : ℕ) (quoted : Bool) (m : Node) → is_letter t m ≡ true → m.start + m.len ≡ a → length t ≤ a + f → length t ≤ a + g → Runs f g a quoted m
  unfolding joined_to
  run zero g a quoted m l q h k =
      (elim (mark_at t a) as (λ c. mark_at t a ≡ c → Runs zero g a quoted m) [
        | true ↦ λ c. absurd (omega (arith, mark_there t a c))
        | false ↦ λ c. unmarked zero g a quoted m q h k c
      ]) refl
  run (suc f) g a quoted m l q h k =
      (elim (mark_at t a) as (λ c. mark_at t a ≡ c → Runs (suc f) g a quoted m) [
        | true ↦ λ c.
            let made : nodes_from false (suc f) t a quoted ≡ literal character a 2 ∷ nodes_from false f t (a + 2) quoted
            = one false t f a quoted (make (literal character a 2) (a + 2) quoted) (sym (mark_step a c quoted)) (omega (arith, mark_there t a c)) in
            let rest = run f g (a + 2) quoted (longer m 2) l (omega (arith, q)) (omega arith) (omega arith) in
            let j = marks (drop (a + 2) t) in
            let size : m.len + suc (suc j) ≡ m.len + 2 + j = omega arith in
            let place : a + suc (suc j) ≡ a + 2 + j = omega arith in
            rw (made, l, c, eq-eqb a (m.start + m.len) (sym q), marks_on t a c, size, place) rest
        | false ↦ λ c. unmarked (suc f) g a quoted m q h k c
      ]) refl

  -- the nodes from a place on
  abbrev Joins : ℕ → Type 0
  Joins n = (at : ℕ) (quoted : Bool) → length t ≤ at + n → nodes_from true n t at quoted ≡ map (in_mode true) (joined t (nodes_from false n t at quoted))

  turn : (n : ℕ) → Joins n → (s o : Step) → Pair s o → length t ≤ o.next + n
      → made_by s ++ nodes_from true n t s.next s.quoted ≡ map (in_mode true) (joined t (made_by o ++ nodes_from false n t o.next o.quoted))
  unfolding measure_of
  turn n rest s o (no_node next quoted) h = rest next quoted h
  turn n rest s o (no_letter_lem m next quoted l) h =
      rw (stays m (nodes_from false n t next quoted) (λ k. rw l)) (ap (λ (ns : List Node). in_mode true m ∷ ns) (rest next quoted h))
  turn n rest s o (a_letter p kind quoted k l) h =
      let c = char_length t p in
      let j = marks (drop (p + c) t) in
      let m = literal kind p c in
      rw (l, run n n (p + c) quoted m (rw (k, l)) refl h h, ← add_assoc p c j)
      (ap (λ (ns : List Node). in_mode true (literal kind p (c + j)) ∷ ns) (rest (p + c + j) quoted (omega arith)))

  joins : (n : ℕ) → Joins n
  joins zero at quoted h = rw (after_end true t zero at quoted (omega arith), after_end false t zero at quoted (omega arith))
  joins (suc n) at quoted h =
      (elim (ltb at (length t)) as (λ c. ltb at (length t) ≡ c → nodes_from true (suc n) t at quoted ≡ map (in_mode true) (joined t (nodes_from false (suc n) t at quoted))) [
        | true ↦ λ c.
            let inside = ltb-true at (length t) c in
            let taken = step_taken false t at quoted inside in
            rw (one true t n at quoted (step_at true t at quoted) refl inside, one false t n at quoted (step_at false t at quoted) refl inside)
            (turn n (joins n) (step_at true t at quoted) (step_at false t at quoted) (step_pair at quoted) (omega (arith, taken.on)))
        | false ↦ λ c. rw (after_end true t (suc n) at quoted (ltb-false _ _ c), after_end false t (suc n) at quoted (ltb-false _ _ c))
      ]) refl

pub by_what_is_before : ByWhatIsBefore
unfolding nodes_by
by_what_is_before t = joins t (length t) 0 false (omega arith)

-- what is said of nodes and stays where a mark is joined to its letter
pub record Kept {A : Type 0} (f : List Node → A) : Type 0 where
  pub mode : (n : Node) (ns : List Node) → f (in_mode true n ∷ ns) ≡ f (n ∷ ns)
  pub after : (n : Node) (ns ms : List Node) → f ns ≡ f ms → f (n ∷ ns) ≡ f (n ∷ ms)
  pub join : (m n : Node) (ns : List Node) → eqb m.kind action ≡ false → eqb n.kind action ≡ false → n.start ≡ m.start + m.len
      → f (longer m n.len ∷ ns) ≡ f (m ∷ n ∷ ns)

module _ {A : Type 0} (f : List Node → A) (k : Kept f) where
  kept_modes : (ns : List Node) → f (map (in_mode true) ns) ≡ f ns
  kept_modes [] = refl
  kept_modes (n ∷ ns) = k.mode n (map (in_mode true) ns) ∙ k.after n (map (in_mode true) ns) ns (kept_modes ns)

  kept_joined : (t : List ℕ) (m : Node) (ns : List Node) → f (joined_to t m ns) ≡ f (m ∷ ns)
  unfolding joined_to
  kept_joined t m [] = refl
  kept_joined t m (n ∷ ns) =
      (elim (is_letter t m && (is_mark t n && follows m n)) as (λ c. (is_letter t m && (is_mark t n && follows m n)) ≡ c → f (when c then joined_to t (longer m n.len) ns else m ∷ joined_to t n ns) ≡ f (m ∷ n ∷ ns)) [
        | true ↦ λ c.
            let first = both (is_letter t m) _ c in
            let others = both (is_mark t n) _ first.1 in
            kept_joined t (longer m n.len) ns
            ∙ k.join m n ns (not-true _ (both (not (eqb m.kind action)) _ first.0).0) (not-true _ (both (not (eqb n.kind action)) _ others.0).0) (eqb-true _ _ others.1)
        | false ↦ λ c. k.after m (joined_to t n ns) (n ∷ ns) (kept_joined t n ns)
      ]) refl

  pub in_both_modes : (accents : Bool) (t : List ℕ) → f (nodes_by accents t) ≡ f (nodes_of t)
  in_both_modes false t = refl
  in_both_modes true t = ap f (by_what_is_before t) ∙ kept_modes (joined t (nodes_of t)) ∙ by (nodes_of t)
    where
      by : (ns : List Node) → f (joined t ns) ≡ f ns
      by [] = refl
      by (n ∷ ns) = kept_joined t n ns
