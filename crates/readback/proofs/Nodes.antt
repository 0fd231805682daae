-- The nodes of a well-formed template. Assumes nothing.
-- `Alike`: what is read as a literal: one character, as long as it and of its first byte's class.
-- `good_nodes`: each node is a literal of one whole character (`Literal`) or a pattern of the table (`Named`), and
-- together, with their prefixes, they have no more bytes than the template (`lengths`). The idea: each step begins
-- where a character begins (`Taken`).
use mathlib.Core.Path.{◌≡◌, ◌∙◌, refl, sym}
use mathlib.Core.Bool.{Bool, true, false, not, ◌||◌, false≢true}
use mathlib.Core.List.{List, [], ◌∷◌, ◌++◌}
use Prim.Native.Nat.{ℕ, zero, suc, ◌+◌, ◌≤◌, ◌<◌}
use native.Mathlib.Nat.{add-zero}
use native.Mathlib.Omega.{arith}
use borrow.Author.Tests.{eqb-true, ltb-true}
use lib.Bits.{bit_or, or_zero_l}
use lib.Dec.{eqb, ltb}
use lib.ListN.{length, take, drop, length-take, length-drop}
use lib.Seq.{drop-cons, get_or-drop}
use Rattle.std.specs.Prelude.{Option, None, Some}
use Rattle.base_notation.specs.Choice.{when◌then◌else◌}
use Rattle.base_notation.specs.Text.{byte_at}
use Rattle.base_notation.proofs.Cases.{both, by_if}
use Rattle.base_accents.specs.Accents.{mark_at, measure_of}
use Rattle.base_accents.proofs.Marks.{low_no_mark}
use Rattle.base_accents.proofs.Measures.{char_first, count, mark_left, measure_left, plain_one}
use Rattle.base_accents.proofs.Texts.{mark_kept, measure_kept, past_character, whole_character}
use Rattle.base_chars.specs.Character.{char_length, lead}
use Rattle.base_chars.specs.Class.{class_of, is_letter, is_space, is_separator}
use Rattle.base_chars.specs.Utf8.{well_formed, sequence}
use Rattle.base_chars.proofs.Characters.{measure}
use Rattle.base_chars.proofs.Sequences.{sequence-lead}
use Rattle.base_chars.proofs.WellFormed.{char_is_sequence}
use Rattle.template_patterns.specs.Affixes.{affix_length, bit_at}
use Rattle.template_patterns.specs.Patterns.{name_of}
use Rattle.template_patterns.specs.Search.{pattern_at}
use Rattle.template_patterns.specs.declared.Found.{Found}
use Rattle.template_patterns.proofs.Search.{found_range, found_name}
use Rattle.template_nodes.specs.Template.{end, action, character, separator, space, kind_of, char_at, char_place, escapes, in_mode, literal, literal_at, skip, element_of, plain_at, step_at, nodes_by, nodes_from, in_list, made_by}
use Rattle.template_nodes.specs.declared.Node.{Node}
use Rattle.template_nodes.specs.declared.Step.{Step}
use Rattle.write_text.specs.Text.{literal_text}
use Rattle.readback.proofs.Boundaries.{Boundary, past_byte, past_affix, past_pattern}

-- a space or a separator
abbrev pub is_blank : ℕ → Bool
is_blank b = is_space b || is_separator b

-- x is one character, as long as the literal n and of the class of its first byte, whatever follows it; in the accents
-- mode no mark may follow
pub record Alike (t : List ℕ) (n : Node) (x : List ℕ) : Type 0 where
  pub b : ℕ
  pub others : List ℕ
  pub is : x ≡ b ∷ others
  pub size : n.len ≡ suc (length others)
  pub long : (v : List ℕ) → (n.accents ≡ true → mark_at v 0 ≡ false) → measure_of n.accents (x ++ v) 0 ≡ n.len
  pub class : class_of b ≡ class_of (byte_at t n.start)
  pub whole : well_formed x ≡ true

-- a byte of ASCII that is no letter is all of it
pub one_byte : {t : List ℕ} {n : Node} {x : List ℕ} (a : Alike t n x) → a.b < 0x80 → is_letter a.b ≡ false → n.len ≡ 1
one_byte {n = n} {x = x} a small e =
    let text : x ++ [] ≡ a.b ∷ a.others ++ [] = rw a.is in
    sym (a.long [] (λ m. low_no_mark [] 0 (omega arith)))
    ∙ rw text (plain_one (a.b ∷ a.others ++ []) 0 n.accents (omega arith) small e)

-- a literal: one character of the template
pub record Literal (t : List ℕ) (n : Node) : Type 0 where
  pub own : Alike t n (literal_text t n)
  pub begins : (v : List ℕ) → mark_at (literal_text t n ++ v) 0 ≡ mark_at t n.start
  pub no_action : eqb n.kind action ≡ false
  pub no_end : eqb n.kind end ≡ false
  pub blank : (eqb n.kind separator || eqb n.kind space) ≡ true → is_blank (byte_at t n.start) ≡ true

-- a pattern of the table
pub record Named (n : Node) : Type 0 where
  pub is_action : n.kind ≡ action
  pub known : n.pattern < 112
  pub size : n.len ≡ length (name_of n.pattern)

pub data Good (t : List ℕ) (n : Node) : Type 0 where
  is_literal : Literal t n → Good t n
  is_named : Named n → Good t n

abbrev pub AllGood : List ℕ → List Node → Type 0
AllGood t [] = Unit {0}
AllGood t (n ∷ ns) = Good t n × AllGood t ns

-- the bytes of the template that nodes are made from; a pattern's affixes count once
abbrev pub lengths : List Node → ℕ
lengths [] = 0
lengths (n ∷ ns) = n.len + affix_length n.suffix + lengths ns

-- a kind of literals: of a character as it is, or by its class
record Kind (kind b : ℕ) : Type 0 where
  no_action : eqb kind action ≡ false
  no_end : eqb kind end ≡ false
  blank : (eqb kind separator || eqb kind space) ≡ true → is_blank b ≡ true

plain_kind : (b : ℕ) → Kind character b
plain_kind b = record { no_action = refl; no_end = refl; blank = λ e. absurd (false≢true e) }

class_kind : (b : ℕ) → Kind (kind_of b) b
unfolding kind_of
class_kind b = by (is_separator b) (is_space b) refl refl
  where
    by : (u v : Bool) → is_separator b ≡ u → is_space b ≡ v → Kind (when u then separator else when v then space else character) b
    by true true p q = record { no_action = refl; no_end = refl; blank = λ e. rw (p, q) }
    by true false p q = record { no_action = refl; no_end = refl; blank = λ e. rw (p, q) }
    by false true p q = record { no_action = refl; no_end = refl; blank = λ e. rw (p, q) }
    by false false p q = record { no_action = refl; no_end = refl; blank = λ e. absurd (false≢true e) }

-- the node of a step from a place is good, and not longer than the step
abbrev GoodStep : List ℕ → ℕ → ℕ → Option Node → Type 0
GoodStep t at next (Some n) = Good t n × (at + n.len + affix_length n.suffix ≤ next)
GoodStep t at next None = Unit {0}

-- what a step from a place takes: it makes a good node or none, and ends where a character begins
record Taken (t : List ℕ) (at : ℕ) (s : Step) : Type 0 where
  next : Boundary t s.next
  from : at ≤ s.next
  node : GoodStep t at s.next s.made

module _ (accents : Bool) (t : List ℕ) where
  first_byte : (p : ℕ) → byte_at (drop p t) 0 ≡ byte_at t p
  first_byte p = rw (get_or-drop p t 0 0, add-zero p)

  -- a character is as long by itself
  own_long : (p : ℕ) (v : List ℕ) → lead (byte_at t p) ≤ length (drop p t) → (accents ≡ true → mark_at v 0 ≡ false)
      → measure_of accents (take (measure_of accents t p) (drop p t) ++ v) 0 ≡ measure_of accents t p
  own_long p v whole clear =
      rw (← measure_left t p accents) (measure_kept (drop p t) v (rw (first_byte p) whole) accents clear)

  -- and is a mark or none, as in the template
  own_mark : (p : ℕ) (v : List ℕ) → lead (byte_at t p) ≤ length (drop p t) → lead (byte_at t p) ≤ measure_of accents t p
      → mark_at (take (measure_of accents t p) (drop p t) ++ v) 0 ≡ mark_at t p
  own_mark p v whole enough = mark_kept (drop p t) v (rw (first_byte p) whole) (measure_of accents t p) (rw (first_byte p) enough) ∙ mark_left t p

  -- a literal character at p
  char_taken : (at p kind : ℕ) (quoted : Bool) → at ≤ p → p < length t → Boundary t p → Kind kind (byte_at t p) → Taken t at (char_at accents t p kind quoted)
  char_taken at p kind quoted l h b k =
      let x = byte_at t p in
      let r = drop (suc p) t in
      let d : drop p t ≡ x ∷ r = drop-cons t p 0 h in
      let one_char = count accents t p in
      let same : char_length t p ≡ sequence (x ∷ r) = char_is_sequence t p h b.begins ∙ rw d in
      let long : lead x ≡ char_length t p = sequence-lead x r (omega (arith, (measure t p).some, same)) ∙ sym same in
      let whole : lead x ≤ length (drop p t) = omega (arith, long, (measure t p).within, length-drop p t) in
      record {
        next = record { within = omega (arith, one_char.within); begins = past_character accents t p b.begins };
        from = omega arith;
        node = (
          is_literal ((elim (measure_of accents t p) as (λ n. measure_of accents t p ≡ n → Literal t (in_mode accents (literal kind p (measure_of accents t p)))) [
            | zero ↦ λ q. absurd (omega (arith, one_char.some))
            | suc n ↦ λ q. record {
              own = record {
                b = x;
                others = take n r;
                is = rw (q, d);
                size = omega (arith, q, length-take n r, length-drop (suc p) t, one_char.within);
                long = λ v clear. own_long p v whole clear;
                class = refl;
                whole = whole_character accents t p b.begins h;
              };
              begins = λ v. own_mark p v whole (omega (arith, long, char_first accents t p));
              no_action = k.no_action;
              no_end = k.no_end;
              blank = k.blank;
            }
          ]) refl),
          omega arith,
        );
      }

  -- the place of a literal character, past a backslash that escapes it
  record Place (at p : ℕ) : Type 0 where
    from : at ≤ p
    inside : p < length t
    boundary : Boundary t p

  placed : (at : ℕ) (quoted : Bool) → at < length t → Boundary t at → Place at (char_place t at quoted)
  unfolding char_place
  placed at quoted h b =
      by_if (Place at) (escapes t at quoted) (at + 1) at
      (λ e. let escape = both (eqb (byte_at t at) 92) _ e in
      let next = (past_byte t at 92 refl (eqb-true _ _ escape.0) b).1 in
      record { from = omega arith; inside = inside quoted next escape.1; boundary = next })
      (λ e. record { from = omega arith; inside = h; boundary = b })
    where
      inside : (q : Bool) → Boundary t (at + 1) → (when q then ltb (at + 1) (length t) else eqb (byte_at t (at + 1)) 34) ≡ true → at + 1 < length t
      inside true next e = ltb-true _ _ e
      inside false next e = (past_byte t (at + 1) 34 refl (eqb-true _ _ e) next).0

  -- a step that makes no node
  skipped : (from at : ℕ) (quoted : Bool) → from ≤ at → Boundary t at → Taken t from (skip at quoted)
  skipped from at quoted l b = record { next = b; from = l; node = tt }

  -- a quote is skipped, anything else is a literal character
  literal_taken : (from at : ℕ) (quoted : Bool) → from ≤ at → at < length t → Boundary t at → Taken t from (literal_at accents t at quoted)
  unfolding literal_at
  literal_taken from at quoted l h b =
      let char = placed at quoted h b in
      by_if (Taken t from) (eqb (byte_at t at) 34) (skip (at + 1) (not quoted)) _
      (λ e. skipped from (at + 1) (not quoted) (omega arith) (past_byte t at 34 refl (eqb-true _ _ e) b).1)
      (λ e. char_taken from (char_place t at quoted) _ quoted (omega arith) char.inside char.boundary (kind quoted))
    where
      kind : (q : Bool) → Kind (when q then character else kind_of (byte_at t (char_place t at quoted))) (byte_at t (char_place t at quoted))
      kind true = plain_kind _
      kind false = class_kind _

  -- the affixes of a pattern have the bytes that are taken for its prefix and its suffix
  affix_bytes : (prefix suffix : ℕ) → affix_length (bit_or prefix suffix) ≤ affix_length prefix + affix_length suffix
  affix_bytes prefix suffix = by (eqb prefix 0) refl
    where
      by : (b : Bool) → eqb prefix 0 ≡ b → affix_length (bit_or prefix suffix) ≤ (when b then 0 else 2) + affix_length suffix
      by true e = rw (eqb-true prefix 0 e, or_zero_l suffix) (omega arith)
      by false e = by_if (λ (n : ℕ). n ≤ 2 + affix_length suffix) (eqb (bit_or prefix suffix) 0) 0 2 (λ q. omega arith) (λ q. omega arith)

  -- a pattern with its prefix and suffix, or a literal
  element_taken : (from at prefix : ℕ) (f : Option Found) → pattern_at t at ≡ f → from + affix_length prefix ≤ at → at < length t → Boundary t at
      → Taken t from (element_of accents f t at prefix)
  element_taken from at prefix None e l h b = literal_taken from at false (omega arith) h b
  element_taken from at prefix (Some f) e l h b =
      let number = found_range t at f e in
      let name = found_name t at f e in
      let past : Boundary t (at + f.len) = rw name.0 (past_pattern t at b f.number number.0 name.1) in
      record {
        next = past_affix t (at + f.len) past false;
        from = omega arith;
        node = (is_named (record { is_action = refl; known = number.0; size = name.0 }), omega (arith, affix_bytes prefix (bit_at false t (at + f.len))));
      }

  -- outside quotes a prefix may come first
  plain_taken : (at : ℕ) → at < length t → Boundary t at → Taken t at (plain_at accents t at)
  unfolding plain_at
  plain_taken at h b =
      let start = at + affix_length (bit_at true t at) in
      let past : Boundary t start = past_affix t at b true in
      by_if (Taken t at) (ltb start (length t)) _ (skip start false)
      (λ e. element_taken at start (bit_at true t at) (pattern_at t start) refl (omega arith) (ltb-true _ _ e) past)
      (λ e. skipped at start false (omega arith) past)

  step_taken : (at : ℕ) (quoted : Bool) → at < length t → Boundary t at → Taken t at (step_at accents t at quoted)
  unfolding step_at
  step_taken at true h b = literal_taken at at true (omega arith) h b
  step_taken at false h b = plain_taken at h b

  -- nodes from a place on
  record Nodes (at : ℕ) (ns : List Node) : Type 0 where
    good : AllGood t ns
    within : at + lengths ns ≤ length t

  none_left : (at : ℕ) → Boundary t at → Nodes at []
  none_left at b = record { good = tt; within = omega (arith, b.within) }

  -- what a step makes, and the nodes after it
  joined : (at : ℕ) (s : Step) (ns : List Node) → Taken t at s → Nodes s.next ns → Nodes at (made_by s ++ ns)
  joined at s ns k r = by s.made k.node
    where
      by : (o : Option Node) → GoodStep t at s.next o → Nodes at (in_list o ++ ns)
      by (Some n) made = record { good = (made.0, r.good); within = omega (arith, made.1, r.within) }
      by None made = record { good = r.good; within = omega (arith, k.from, r.within) }

  nodes_from_lem : (fuel at : ℕ) (quoted : Bool) → Boundary t at → Nodes at (nodes_from accents fuel t at quoted)
  unfolding nodes_from
  nodes_from_lem zero at quoted b = none_left at b
  nodes_from_lem (suc fuel) at quoted b =
      let s = step_at accents t at quoted in
      by_if (Nodes at) (ltb at (length t)) _ []
      (λ e. let taken = step_taken at quoted (ltb-true _ _ e) b in joined at s _ taken (nodes_from_lem fuel s.next s.quoted taken.next))
      (λ e. none_left at b)

  pub good_nodes : well_formed t ≡ true → AllGood t (nodes_by accents t) × (lengths (nodes_by accents t) ≤ length t)
  unfolding nodes_by
  good_nodes e =
      let from_start = nodes_from_lem (length t) 0 false (record { within = omega arith; begins = e }) in
      (from_start.good, omega (arith, from_start.within))
