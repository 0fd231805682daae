-- Inputs that spell the nodes of a template at a moment. Assumes nothing.
-- `Spells`: a part of the input spells a node: it is one character, as long as the literal and of its class, or it
-- spells the pattern's piece. `AllSpelled`: what is left of the input is a part for each node that is left (`Parted`).
-- `text_spelled`: so is the text that the writer writes, if no mark of the accents mode follows a node (`AllClear`).
-- `spelled_utf8`: what spells nodes is UTF-8. `spelled_length`: it is longer than they are in the template by at most 4
-- bytes for each US and 2 for each full name of a month (`extra`).
-- `stops`: after a number that is read with all its digits, no digit follows.
-- `blank_left`: where spaces and separators alone are left, no piece is.
use mathlib.Core.Path.{◌≡◌, ◌∙◌, refl}
use mathlib.Core.Bool.{Bool, true, false, not, false≢true}
use mathlib.Core.List.{List, [], ◌∷◌, ◌++◌}
use Prim.Native.Nat.{ℕ, suc, ◌+◌, ◌*◌, ◌≤◌}
use native.Mathlib.Omega.{arith}
use borrow.Author.Tests.{eqb-true, ltb-false, not-true}
use lib.Dec.{eqb, ltb}
use lib.ListN.{length, length-append}
use Rattle.base_notation.specs.Choice.{when◌then◌else◌}
use Rattle.base_accents.specs.Accents.{mark_at}
use Rattle.base_chars.specs.Class.{class_of, digit, is_digit}
use Rattle.base_chars.specs.Utf8.{well_formed}
use Rattle.base_chars.proofs.Classes.{digit_bounds, the_class}
use Rattle.base_chars.proofs.WellFormed.{empty_text, append_text}
use Rattle.base_strtol.specs.Runs.{leading, digits}
use Rattle.read_input.specs.Reader.{head_of}
use Rattle.read_integers.specs.Suffix.{ends_number, is_free}
use Rattle.template_nodes.specs.declared.Node.{Node}
use Rattle.template_patterns.specs.Affixes.{affix_length}
use Rattle.template_patterns.specs.Cases.{case_of}
use Rattle.write_text.specs.Full.{pieces, times}
use Rattle.write_text.specs.Text.{node_text, nodes_text}
use Rattle.write_pieces.specs.Moment.{moment}
use Rattle.write_pieces.specs.Pieces.{micros, month_name, piece_of}
use Rattle.write_pieces.specs.declared.Moment.{Moment}
use Rattle.readback.proofs.Ahead.{Ahead, ink_ahead, ink_some, ahead_all}
use Rattle.readback.proofs.Known.{excess}
use Rattle.readback.proofs.MomentFacts.{IsMoment}
use Rattle.readback.proofs.Nodes.{Alike, Literal, lengths, one_byte}
use Rattle.readback.proofs.Sound.{Pattern, Sound, a_literal, a_pattern, AllSound, pieces_literal, pieces_pattern, literal_text_lem, pattern_text}
use Rattle.readback.proofs.Texts.{SpellsPiece, piece_spelled, spelled_written, spelled_size, spelled_stops}

-- x spells the node n at the moment m
pub data Spells (t : List ℕ) (m : Moment) (n : Node) (x : List ℕ) : Type 0 where
  as_literal : Literal t n → Alike t n x → Spells t m n x
  as_pattern : Pattern n → SpellsPiece (piece_of n.pattern) m x → Spells t m n x

-- u is two parts, with P of the first and Q of the other
pub record Parted (P Q : List ℕ → Type 0) (u : List ℕ) : Type 0 where
  pub part : List ℕ
  pub rest : List ℕ
  pub is : u ≡ part ++ rest
  pub first : P part
  pub others : Q rest

-- each node has its part; after a node of the accents mode no mark follows
abbrev pub AllSpelled : List ℕ → Moment → List Node → List ℕ → Type 0
AllSpelled t m [] u = u ≡ []
AllSpelled t m (n ∷ ns) u = Parted (Spells t m n) (λ (rest : List ℕ). AllSpelled t m ns rest × (n.accents ≡ true → mark_at rest 0 ≡ false)) u

-- the bytes by which a text may be longer than its template
abbrev pub extra : List ℕ → ℕ
extra ps = 4 * times micros ps + 2 * times month_name ps

module _ (t : List ℕ) (m : Moment) where
  node_spelled : (n : Node) → Sound t n → Spells t m n (node_text t m n)
  node_spelled n (a_literal l) = rw (literal_text_lem t m n l) (as_literal l l.own)
  node_spelled n (a_pattern k) =
      rw (pattern_text t m n k) (as_pattern k (piece_spelled m (case_of n.pattern) (piece_of n.pattern) (omega (arith, k.reads.piece))))

  -- the text after each node of the accents mode begins with no mark
  abbrev pub AllClear : List Node → Type 0
  AllClear [] = Unit {0}
  AllClear (n ∷ ns) = (n.accents ≡ true → mark_at (nodes_text t m ns) 0 ≡ false) × AllClear ns

  pub text_spelled : (ns : List Node) → AllSound t ns → AllClear ns → AllSpelled t m ns (nodes_text t m ns)
  unfolding nodes_text
  text_spelled [] a c = refl
  text_spelled (n ∷ ns) a c = record {
    part = node_text t m n;
    rest = nodes_text t m ns;
    is = refl;
    first = node_spelled n a.0;
    others = (text_spelled ns a.1 c.1, c.0);
  }

module _ (t : List ℕ) {y mo d h mi sec us : ℕ} (is : IsMoment y mo d h mi sec us) where
  abbrev now : Moment
  now = moment y mo d h mi sec us

  node_utf8 : (n : Node) (x : List ℕ) → Spells t now n x → well_formed x ≡ true
  node_utf8 n x (as_literal l a) = a.whole
  node_utf8 n x (as_pattern k w) = (spelled_written is k.some w).text

  pub spelled_utf8 : (ns : List Node) (u : List ℕ) → AllSpelled t now ns u → well_formed u ≡ true
  spelled_utf8 [] u e = rw e empty_text
  spelled_utf8 (n ∷ ns) u a =
      rw a.is (append_text a.part a.rest (node_utf8 n a.part a.first) ∙ spelled_utf8 ns a.rest a.others.0)

  -- US and the full name of a month alone may be longer than in the template
  excesses : (p : ℕ) (ps : List ℕ) → excess p + extra ps ≡ extra (p ∷ ps)
  unfolding times
  excesses p ps = by (eqb micros p) (eqb month_name p) refl refl
    where
      by : (a b : Bool) → eqb micros p ≡ a → eqb month_name p ≡ b
          → (when a then 4 else when b then 2 else 0) + extra ps
          ≡ 4 * (when a then suc (times micros ps) else times micros ps) + 2 * (when b then suc (times month_name ps) else times month_name ps)
      by true true q r = absurd (omega (arith, eqb-true micros p q, eqb-true month_name p r))
      by true false q r = omega arith
      by false true q r = omega arith
      by false false q r = omega arith

  pub spelled_length : (ns : List Node) (u : List ℕ) → AllSpelled t now ns u → length u ≤ lengths ns + extra (pieces ns)
  spelled_length [] u e = rw e (omega arith)
  spelled_length (n ∷ ns) u a = rw (a.is, length-append a.part a.rest) (by a.first (spelled_length ns a.rest a.others.0))
    where
      by : Spells t now n a.part → length a.rest ≤ lengths ns + extra (pieces ns)
          → length a.part + length a.rest ≤ n.len + affix_length n.suffix + lengths ns + extra (pieces (n ∷ ns))
      by (as_literal l c) h = rw (pieces_literal t n ns l, c.is) (omega (arith, c.size))
      by (as_pattern k w) h =
          let p = piece_of n.pattern in
          rw (pieces_pattern t n ns k, k.affix) (omega (arith, spelled_size is w, k.reads.size, k.size, excesses p (pieces ns)))

  pub stops : (n : Node) → n.suffix ≡ 0 → (ns : List Node) (u : List ℕ) → AllSpelled t now ns u → is_free t n (head_of ns) ≡ true → digits u ≡ 0
  unfolding leading ends_number
  stops n z [] u a e = rw a
  stops n z (x ∷ ns) u a e = rw a.is (by a.first)
    where
      -- the literal would be a digit, and a digit does not end a number
      no_digit : (l : Literal t x) (c : Alike t x a.part) → is_digit c.b ≡ false
      no_digit l c =
          (elim (is_digit c.b) as (λ d. is_digit c.b ≡ d → is_digit c.b ≡ false) [
            | true ↦ λ d.
                let one : x.len ≡ 1 = one_byte c (omega (arith, digit_bounds c.b d)) (rw (the_class (class_of c.b) digit d)) in
                absurd (false≢true (rw (z, l.no_end, l.no_action, one, ← c.class, d) at e))
            | false ↦ λ d. d
          ]) refl

      by : Spells t now x a.part → digits (a.part ++ a.rest) ≡ 0
      by (as_literal l c) = rw (c.is, no_digit l c)
      by (as_pattern k w) =
          let word : not (ltb (piece_of x.pattern) 14) ≡ true = rw (z, k.is_action, k.reads.digit) at e in
          spelled_stops is (ltb-false _ _ (not-true _ word)) w a.rest

  pub blank_left : (ns : List Node) (u : List ℕ) → AllSpelled t now ns u → Ahead (length u) u → pieces ns ≡ []
  unfolding pieces
  blank_left [] u a k = refl
  blank_left (n ∷ ns) u a k = by a.first (blank_left ns a.rest a.others.0 (ahead_all a.part a.rest ahead))
    where
      ahead : Ahead (length (a.part ++ a.rest)) (a.part ++ a.rest)
      ahead = rw a.is at k

      by : Spells t now n a.part → pieces ns ≡ [] → pieces (n ∷ ns) ≡ []
      by (as_literal l c) ih = rw l.no_action ih
      by (as_pattern p w) ih =
          let ink = (spelled_written is p.some w).ink in
          absurd (omega (arith, ink_ahead a.part a.rest ink (length (a.part ++ a.rest)) ahead, ink_some a.part ink, length-append a.part a.rest))
