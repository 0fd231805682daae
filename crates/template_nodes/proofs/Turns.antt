-- The compiler's loop. The invariant (`Read`): the nodes stored so far, then those of what is left of the template, are
-- the template's. `begun`: so it is at first. `kept`, `passed`: so it stays by a step that makes a node, by one that
-- makes none. `turned`: so it stays by either.
-- `put_one`: a step puts one node at most.
-- `ended`: at the template's end the buffer holds the template's nodes.
-- `plain_step`, `in_quotes`: a plain character in quotes is a step, which stays in quotes. Assumes nothing.
use mathlib.Core.Path.{◌≡◌, ◌∙◌, refl, sym, ap}
use mathlib.Core.Bool.{Bool, true, false, not, false≢true}
use mathlib.Core.List.{List, [], ◌++◌, append_assoc, append-nil}
use Prim.Native.Nat.{ℕ, zero, suc, ◌+◌, ◌*◌, ◌<◌, ◌≤◌}
use native.Mathlib.Omega.{arith}
use borrow.Author.Tests.{lt-ltb, le-ltb, not-true}
use lib.Dec.{eqb}
use lib.ListN.{length, drop, length-append}
use lib.Seq.{sets}
use Rattle.std.specs.Prelude.{Option, None, Some}
use Rattle.base_notation.specs.Text.{byte_at}
use Rattle.base_notation.proofs.Cases.{both}
use Rattle.template_nodes.specs.Bytes.{Parsed, Put, bytes_of, encoded}
use Rattle.template_nodes.specs.Template.{character, char_at, char_place, is_quoted_char, literal_at, step_at, made_by, nodes_by, nodes_from}
use Rattle.template_nodes.specs.declared.Node.{Node}
use Rattle.template_nodes.specs.declared.Step.{Step}
use Rattle.template_nodes.proofs.Encoding.{put_after}
use Rattle.template_nodes.proofs.Steps.{made_one}

-- n nodes are done, and the fuel that is left is enough for the rest
pub record Read (accents : Bool) (t before after : List ℕ) (n at : ℕ) (quoted : Bool) : Type 0 where
  pub fuel : ℕ
  pub done : List Node
  pub enough : length t ≤ at + fuel
  pub size : length done ≡ n
  pub stored : after ≡ encoded done ++ drop (6 * n) before
  pub whole : done ++ nodes_from accents fuel t at quoted ≡ nodes_by accents t

pub begun : (accents : Bool) (t before : List ℕ) → Read accents t before before 0 0 false
unfolding nodes_by encoded
begun accents t before = record { fuel = length t; done = []; enough = omega arith; size = refl; stored = refl; whole = refl }

-- a step puts one node at most
pub put_one : (s : Step) (before after : List ℕ) (i r : ℕ) → Put s before after i r → r ≤ i + 1
put_one s before after i r put = omega (arith, put.count, made_one s.made)

-- at the end nothing is left
pub after_end : (accents : Bool) (t : List ℕ) (fuel at : ℕ) (quoted : Bool) → length t ≤ at → nodes_from accents fuel t at quoted ≡ []
unfolding nodes_from
after_end accents t zero at quoted h = refl
after_end accents t (suc f) at quoted h = rw (le-ltb at (length t) h)

pub ended : (accents : Bool) (t before after : List ℕ) (n at : ℕ) (quoted : Bool) → Read accents t before after n at quoted → n ≤ 256 → length t ≤ at
    → Parsed (nodes_by accents t) before after n
ended accents t before after n at quoted r few h =
    let all : r.done ≡ nodes_by accents t = rw (after_end accents t r.fuel at quoted h, append-nil) at r.whole in
    let count : n ≡ length (nodes_by accents t) = sym r.size ∙ ap (λ (l : List Node). length l) all in
    record { is = r.stored ∙ rw (all, count); count = count; few = few }

-- a character in quotes is a step
pub plain_step : (accents : Bool) (t : List ℕ) (at : ℕ) (quoted : Bool) → is_quoted_char t at quoted ≡ true
    → char_at accents t at character true ≡ step_at accents t at quoted
unfolding step_at literal_at char_place
plain_step accents t at true e =
    let both_are = both (not (eqb (byte_at t at) 34)) _ e in
    rw (not-true (eqb (byte_at t at) 34) both_are.0, not-true (eqb (byte_at t at) 92) both_are.1)
plain_step accents t at false e = absurd (false≢true e)

pub in_quotes : (t : List ℕ) (at : ℕ) (quoted : Bool) → is_quoted_char t at quoted ≡ true → true ≡ quoted
in_quotes t at true e = refl
in_quotes t at false e = absurd (false≢true e)

-- a step
pub one : (accents : Bool) (t : List ℕ) (fuel at : ℕ) (quoted : Bool) (s : Step) → s ≡ step_at accents t at quoted → at < length t
    → nodes_from accents (suc fuel) t at quoted ≡ made_by s ++ nodes_from accents fuel t s.next s.quoted
unfolding nodes_from
one accents t fuel at quoted s e h = rw (e, lt-ltb at (length t) h)

module _ (accents : Bool) (t before : List ℕ) (n at : ℕ) (quoted : Bool) (s : Step) (e : s ≡ step_at accents t at quoted) (h : at < length t) (on : at < s.next) where
  turn : (fuel : ℕ) (done : List Node) → length t ≤ at + fuel → done ++ nodes_from accents fuel t at quoted ≡ nodes_by accents t
      → (out : List ℕ) (n' : ℕ) → length (done ++ made_by s) ≡ n' → out ≡ encoded (done ++ made_by s) ++ drop (6 * n') before
      → Read accents t before out n' s.next s.quoted
  turn zero done l w out n' p q = absurd (omega arith)
  turn (suc f) done l w out n' p q =
      record {
        fuel = f;
        done = done ++ made_by s;
        enough = omega arith;
        size = p;
        stored = q;
        whole = rw (append_assoc, ← one accents t f at quoted s e h) w;
      }

  module _ {after : List ℕ} (r : Read accents t before after n at quoted) where
    pub kept : 6 * n + 6 ≤ length before → (node : Node) → s.made ≡ Some node → Read accents t before (sets after (6 * n) (bytes_of node)) (n + 1) s.next s.quoted
    kept room node m =
        turn r.fuel r.done r.enough r.whole (sets after (6 * n) (bytes_of node)) (n + 1)
        (rw (m, length-append) (omega (arith, r.size)))
        (rw (r.stored, m) (put_after r.done before node n r.size room))

    pub passed : s.made ≡ None → Read accents t before after n s.next s.quoted
    passed m =
        turn r.fuel r.done r.enough r.whole after n (rw (m, append-nil) r.size) (rw (m, append-nil) r.stored)

    -- by either, as the node of the step was put
    pub turned : 6 * n + 6 ≤ length before → (out : List ℕ) (m : ℕ) → Put s after out n m → Read accents t before out m s.next s.quoted
    turned room out m put = split s.made refl
      where
        split : (o : Option Node) → s.made ≡ o → Read accents t before out m s.next s.quoted
        split (Some node) q = rw (put.is, put.count, q) (kept room node q)
        split None q =
            let same : n + 0 ≡ n = omega arith in
            rw (put.is, put.count, q, same) (passed q)
