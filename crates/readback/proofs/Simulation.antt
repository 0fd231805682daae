-- Reading an input that spells the nodes of a template. Assumes nothing.
-- `simulated`: it is accepted, and sets what all pieces set (`Ends`). By induction on the nodes. At each node what is
-- left of the input spells the nodes to come, the pieces done and those to come are all, the fields are those of the
-- pieces done, and the reader is ahead by spaces and separators alone.
use Rattle.std.specs.Prelude.{Ok}
use mathlib.Core.Path.{◌≡◌, ◌∙◌, refl}
use mathlib.Core.Bool.{Bool, true, false}
use mathlib.Core.List.{List, [], ◌∷◌, ◌++◌}
use Prim.Native.Nat.{ℕ, ◌+◌, ◌≤◌, ◌<◌}
use native.Mathlib.Nat.{add-zero}
use native.Mathlib.Omega.{arith}
use borrow.Author.Tests.{lt-ltb, le-ltb, ltb-false, ltb-true}
use lib.Dec.{eqb, ltb}
use lib.ListN.{length, drop}
use lib.Seq.{drop-drop}
use Rattle.base_accents.specs.Accents.{mark_at}
use Rattle.read_fields.specs.Fields.{read}
use Rattle.read_literals.specs.Literals.{place, literal_passed}
use Rattle.read_input.specs.Reader.{entered, node_read, head_of, read_from}
use Rattle.read_fields.specs.declared.Fields.{Fields}
use Rattle.read_fields.specs.declared.Place.{Place}
use Rattle.read_fields.specs.declared.Reading.{Reading}
use Rattle.base_strtol.specs.Runs.{spaces}
use Rattle.template_nodes.specs.Template.{action}
use Rattle.template_nodes.specs.declared.Node.{Node}
use Rattle.write_text.specs.Full.{pieces, times}
use Rattle.write_pieces.specs.Moment.{moment}
use Rattle.readback.proofs.MomentFacts.{IsMoment}
use Rattle.write_pieces.specs.Pieces.{piece_of}
use Rattle.write_pieces.specs.declared.Moment.{Moment}
use Rattle.readback.proofs.FieldSettings.{expected}
use Rattle.readback.proofs.Actions.{pattern_step}
use Rattle.readback.proofs.Ahead.{Ahead, ahead_within, ahead_spaces, ahead_skip, ink_ahead}
use Rattle.readback.proofs.Compatible.{together, absent, unmixed, stored, fits_next}
use Rattle.readback.proofs.Groups.{expected_same}
use Rattle.readback.proofs.Literals.{Left, left_length, left_past, literal_step}
use Rattle.readback.proofs.Nodes.{Alike, Literal}
use Rattle.readback.proofs.Sound.{Pattern, bare, pieces_literal, pieces_pattern}
use Rattle.readback.proofs.Spells.{Spells, as_literal, as_pattern, AllSpelled, stops, blank_left}
use Rattle.readback.proofs.Texts.{SpellsPiece, spelled_written}

module _ (t s : List ℕ) where
  -- a literal node, with the spaces that are skipped before it if it is the first
  literal_read : (n next : Node) (first : Bool) (f : Fields) (p : Place) → eqb n.kind action ≡ false
      → node_read t s n next first f p ≡ read f (literal_passed s n (entered s n first p))
  unfolding node_read
  literal_read n next first f p e = rw e

  -- with these spaces skipped, the reader is ahead still
  record Entered (n : Node) (first : Bool) (at e : ℕ) (u : List ℕ) : Type 0 where
    skip : ℕ
    is : entered s n first (place (at + e) e false) ≡ place (at + skip) skip false
    ahead : Ahead skip u

  literal_entered : (n : Node) (first : Bool) (at e : ℕ) (u : List ℕ) → eqb n.kind action ≡ false → Left s at u → Ahead e u → Entered n first at e u
  unfolding entered
  literal_entered n false at e u q h k = record { skip = e; is = rw q; ahead = k }
  literal_entered n true at e u q h k =
      let left : drop (at + e) s ≡ drop e u = rw (← drop-drop e at s, h.is) in
      let past_spaces : at + e + spaces (drop e u) ≡ at + (e + spaces (drop e u)) = omega arith in
      record { skip = e + spaces (drop e u); is = rw (q, left, past_spaces); ahead = ahead_skip e u k }

  -- one node is read, and then the others
  step : (n : Node) (ns : List Node) (first : Bool) (f : Fields) (p : Place) (g : Fields) (q : Place) → p.at < length s → node_read t s n (head_of ns) first f p ≡ read g q
      → read_from t s (n ∷ ns) first f p ≡ read_from t s ns false g q
  unfolding read_from
  step n ns first f p g q h e = rw (lt-ltb p.at (length s) h, e)

  -- where the input ends, reading ends
  at_end : (ns : List Node) (first : Bool) (f : Fields) (p : Place) → length s ≤ p.at → read_from t s ns first f p ≡ read f p
  unfolding read_from
  at_end [] first f p h = refl
  at_end (n ∷ ns) first f p h = rw (le-ltb p.at (length s) h)

-- the input was read without a refusal, and these are the fields
pub record Ends (f : Fields) (r : Reading) : Type 0 where
  pub verdict : r.verdict ≡ (Ok tt)
  pub fields : r.fields ≡ f

module _ (t s : List ℕ) {y mo d h mi sec us : ℕ} (is : IsMoment y mo d h mi sec us) (all : List ℕ) (c : together all ≡ true) where
  abbrev now : Moment
  now = moment y mo d h mi sec us

  -- the pieces done and those to come are all
  abbrev Fits : List ℕ → List ℕ → Type 0
  Fits done ps = (q : ℕ) → times q done + times q ps ≡ times q all

  -- no piece is left
  finished : (done : List ℕ) (p : Place) → Fits done [] → Ends (expected all now) (read (expected done now) p)
  unfolding times
  finished done p fits = record { verdict = refl; fields = expected_same now done all (λ q. omega (arith, fits q)) }

  -- reading from e bytes ahead of at, with the fields of the pieces done, ends with the fields of all
  abbrev Finishes : List Node → Bool → ℕ → ℕ → List ℕ → Type 0
  Finishes ns first at e done = Ends (expected all now) (read_from t s ns first (expected done now) (place (at + e) e false))

  -- wherever what is left spells the nodes
  abbrev Simulates : List Node → Bool → Type 0
  Simulates ns first =
      (u : List ℕ) (at e : ℕ) (done : List ℕ) → AllSpelled t now ns u → Left s at u → Ahead e u → Fits done (pieces ns) → Finishes ns first at e done

  module _ (n : Node) (ns : List Node) (rest : Simulates ns false) (x u : List ℕ) (a : AllSpelled t now ns u) (first : Bool) (at e : ℕ) (done : List ℕ)
      (left : Left s at (x ++ u)) (k : Ahead e (x ++ u)) (fits : Fits done (pieces (n ∷ ns))) (more : at + e < length s) where
    -- a literal is read, and the others after it
    of_literal : Literal t n → Alike t n x → (n.accents ≡ true → mark_at u 0 ≡ false) → Finishes (n ∷ ns) first at e done
    of_literal l c clear =
        let f = expected done now in
        let here : Left s at (c.b ∷ c.others ++ u) = rw c.is at left in
        let before = literal_entered t s n first at e (c.b ∷ c.others ++ u) l.no_action here (rw c.is at k) in
        let past = literal_step s t n l c u clear at here before.skip before.ahead in
        let left_on : Left s (at + n.len) u = rw c.size (left_past (c.b ∷ c.others) u here) in
        rw (step t s n ns first f (place (at + e) e false) f (place (at + n.len + past.next) past.next false) more
        (rw (literal_read t s n (head_of ns) first f (place (at + e) e false) l.no_action, before.is, past.is)))
        (rest u (at + n.len) past.next done a left_on past.ahead (λ q. rw (pieces_literal t n ns l) at (fits q)))

    -- a pattern is read at what spells its piece, and the others after it
    of_pattern : Pattern n → SpellsPiece (piece_of n.pattern) now x → Finishes (n ∷ ns) first at e done
    of_pattern p w =
        let f = expected done now in
        let y = piece_of n.pattern in
        let ps = pieces ns in
        let level : e ≡ 0 = ink_ahead x u (spelled_written is p.some w).ink e k in
        let all_fit : Fits done (y ∷ ps) = λ j. rw (pieces_pattern t n ns p) at (fits j) in
        let small = p.reads.piece in
        rw (
          level,
          add-zero at,
          step t s n ns first f (place at 0 false) (expected (y ∷ done) now) (place (at + length x + spaces u) (spaces u) false) (omega arith)
              (pattern_step s is n t (head_of ns) first p f x u at w left (λ to. stops t is n (bare p to) ns u a)
              (absent all c now done y ps small all_fit) (unmixed all c now done y ps small all_fit) ∙ rw (stored all c now done y ps small all_fit)),
        )
        (rest u (at + length x) (spaces u) (y ∷ done) a (left_past x u left) (ahead_spaces u) (fits_next all c now done y ps small all_fit))

  -- where the input ends, no pattern is left
  ended : (ns : List Node) (first : Bool) (u : List ℕ) (at e : ℕ) (done : List ℕ) → AllSpelled t now ns u → Left s at u → Ahead e u
      → Fits done (pieces ns) → length s ≤ at + e → Finishes ns first at e done
  ended ns first u at e done a left k fits h =
      let whole : e ≡ length u = omega (arith, ahead_within e u k, left_length left) in
      let none : pieces ns ≡ [] = blank_left t is ns u a (rw whole at k) in
      rw (at_end t s ns first (expected done now) (place (at + e) e false) h) (finished done (place (at + e) e false) (λ q. rw none at (fits q)))

  pub simulated : (ns : List Node) (first : Bool) → Simulates ns first
  unfolding read_from pieces
  simulated [] first u at e done a left k fits = finished done (place (at + e) e false) fits
  simulated (n ∷ ns) first u at e done a left k fits = by a.first (ltb (at + e) (length s)) refl (simulated ns false)
    where
      by : Spells t now n a.part → (w : Bool) → ltb (at + e) (length s) ≡ w → Simulates ns false → Finishes (n ∷ ns) first at e done
      by y false w rest = ended (n ∷ ns) first u at e done a left k fits (ltb-false _ _ w)
      by (as_literal l c) true w rest =
          of_literal n ns rest a.part a.rest a.others.0 first at e done (rw a.is at left) (rw a.is at k) fits (ltb-true _ _ w) l c a.others.1
      by (as_pattern p y) true w rest =
          of_pattern n ns rest a.part a.rest a.others.0 first at e done (rw a.is at left) (rw a.is at k) fits (ltb-true _ _ w) p y
