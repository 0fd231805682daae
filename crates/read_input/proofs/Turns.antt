-- The loop over the nodes: what is left, read from where reading is, gives the whole. Assumes nothing.
-- `begun`: so before the first node.
-- `then_on`: so after nodes that were read.
-- `goes_on`, `passes`: so after a pattern that is read, and after any node that is.
-- `input_ends`, `template_ends`: at the end of the input or of the nodes, what was read is the whole.
-- `stops`: at a pattern that is refused, the refusal is the whole.
use Rattle.std.specs.Prelude.{Err, Ok, Result, ⊤}
use mathlib.Core.Path.{◌≡◌, ◌∙◌, refl, sym, ap}
use mathlib.Core.Bool.{Bool, false, not}
use mathlib.Core.List.{List, [], ◌∷◌}
use Prim.Native.Nat.{ℕ, zero, suc, ◌+◌, ◌<◌, ◌≤◌}
use native.Mathlib.Numerals.{add-one}
use native.Mathlib.Omega.{arith}
use borrow.Author.Tests.{lt-ltb, le-ltb, eq-eqb, ne_eqb, eqb-true}
use lib.Dec.{eqb}
use lib.ListN.{length, drop, get_or, drop_of_length-le}
use lib.Seq.{drop-cons}
use Rattle.base_refusals.specs.declared.Refusal.{Refusal}
use Rattle.template_nodes.specs.Template.{end_node}
use Rattle.template_nodes.specs.declared.Node.{Node}
use Rattle.read_fields.specs.Fields.{no_fields, read, onward}
use Rattle.read_literals.specs.Literals.{Payable, entered_by, place}
use Rattle.read_input.specs.Reader.{action_read, entered, head_of, node_read, read_all, read_from}
use Rattle.read_fields.specs.Tasks.{exact, kind_of, same_kind, task_of}
use Rattle.read_input.specs.Turn.{Turned}
use Rattle.read_fields.specs.declared.Fields.{Fields}
use Rattle.read_fields.specs.declared.Place.{Place}
use Rattle.read_fields.specs.declared.Reading.{Reading}
use Rattle.read_input.proofs.Payable.{payable_action, payable_node}

pub begun : (t s : List ℕ) (ns : List Node) → Turned t s ns (read_all t s ns) 0 no_fields (place 0 0 false)
unfolding read_all
begun t s ns = record { within = omega arith; none = λ e. refl; payable = λ e. omega arith; left = refl }

-- past the end of the input, and of the nodes, nothing more is read
at_end : (t s : List ℕ) (ns : List Node) (first : Bool) (f : Fields) (p : Place) → length s ≤ p.at → read_from t s ns first f p ≡ read f p
unfolding read_from
at_end t s [] first f p h = refl
at_end t s (n ∷ ns) first f p h = rw (le-ltb p.at (length s) h)

no_node : (t s : List ℕ) (ns : List Node) (i : ℕ) (first : Bool) (f : Fields) (p : Place) → length ns ≤ i → read_from t s (drop i ns) first f p ≡ read f p
unfolding read_from
no_node t s ns i first f p h = rw (drop_of_length-le ns h)

-- the first of what is left is the next node
head_is : (ns : List Node) (k : ℕ) → head_of (drop k ns) ≡ get_or ns k end_node
head_is [] zero = refl
head_is [] (suc k) = refl
head_is (n ∷ ns) zero = refl
head_is (n ∷ ns) (suc k) = head_is ns k

-- one node is read, then the rest
one : (t s : List ℕ) (ns : List Node) (i : ℕ) (first : Bool) (f : Fields) (p : Place) → i < length ns → p.at < length s
    → (n next : Node) → n ≡ get_or ns i end_node → next ≡ get_or ns (suc i) end_node
    → (r : Reading) → r ≡ node_read t s n next first f p
    → read_from t s (drop i ns) first f p ≡ onward r.verdict r (read_from t s (drop (suc i) ns) false r.fields r.place)
unfolding read_from
one t s ns i first f p h l n next e q r is =
    rw (drop-cons ns i end_node h, head_is ns (suc i), ← e, ← q, ← is, lt-ltb p.at (length s) l)

module _ (t s : List ℕ) (ns : List Node) (whole : Reading) (i : ℕ) (f : Fields) (p : Place) (turned : Turned t s ns whole i f p) where
  pub input_ends : length s ≤ p.at → read f p ≡ whole
  input_ends h = sym (at_end t s (drop i ns) (eqb i 0) f p h) ∙ turned.left

  pub template_ends : length ns ≤ i → read f p ≡ whole
  template_ends h = sym (no_node t s ns i (eqb i 0) f p h) ∙ turned.left

  -- what was to be read from here on, and is read up to node j
  pub then_on : {j : ℕ} {g : Fields} {q : Place} → Turned t s ns (read_from t s (drop i ns) (eqb i 0) f p) j g q → Turned t s ns whole j g q
  then_on then = record { within = then.within; none = then.none; payable = then.payable; left = then.left ∙ turned.left }

  module _ (h : i < length ns) (l : p.at < length s) (n next : Node) (e : n ≡ get_or ns i end_node) (q : next ≡ get_or ns (i + 1) end_node) where
    -- what one node reads, and the rest after it, give the whole
    turn : (r : Reading) → r ≡ node_read t s n next (eqb i 0) f p
        → onward r.verdict r (read_from t s (drop (i + 1) ns) false r.fields r.place) ≡ whole
    turn r is = rw (add-one i) (sym (one t s ns i (eqb i 0) f p h l n next e (rw (add-one i) at q) r is) ∙ turned.left)

    next_turn : (r : Reading) → r ≡ node_read t s n next (eqb i 0) f p → r.verdict ≡ Ok tt → Payable s r.place → Turned t s ns whole (i + 1) r.fields r.place
    next_turn r is v pay =
        record {
          within = omega arith;
          none = λ z. absurd (omega arith);
          payable = pay;
          left = rw (ne_eqb (i + 1) 0 (omega arith)) (rw v at (turn r is));
        }

    -- a pattern
    module _ (k : n.kind ≡ 1) (r : Reading)
        (is : r ≡ action_read t s n next f (entered_by s (not (same_kind (kind_of (task_of n.pattern).kind) exact)) p))
      where
        node : r ≡ node_read t s n next (eqb i 0) f p
        unfolding node_read entered
        node = rw (eq-eqb n.kind 1 k) is

        pub stops : (why : Refusal) → r.verdict ≡ Err why → r ≡ whole
        stops why v =
            sym (ap (λ (v : Result ⊤ Refusal). onward v r (read_from t s (drop (i + 1) ns) false r.fields r.place)) v) ∙ turn r node

        pub goes_on : r.verdict ≡ Ok tt → Turned t s ns whole (i + 1) r.fields r.place
        goes_on v =
            next_turn r node v
            (rw (← is) at (payable_action s f (entered_by s (not (same_kind (kind_of (task_of n.pattern).kind) exact)) p) t n next (rw is at v)))

    -- a node that is read, whichever it is
    pub passes : (g : Fields) (q : Place) → read g q ≡ node_read t s n next (eqb i 0) f p → Turned t s ns whole (i + 1) g q
    passes g q is =
        next_turn (read g q) is refl
        (rw (← is) at (payable_node s n next f p (eqb i 0) t turned.payable (λ z. turned.none (eqb-true i 0 z)) (sym (ap (λ (r : Reading). r.verdict) is))))
