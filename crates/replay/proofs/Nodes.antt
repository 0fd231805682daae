-- The nodes of a template, put one by one.
-- `node_is`: a node of the buffer that a template was parsed into is the template's.
-- `begun`, `more`: what was put, then the nodes that are left, are the template's (`Listed`), at first and with a node
-- more. `ended`: no node is left. Assumes nothing.
use mathlib.Core.Path.{◌≡◌, ◌∙◌, refl, sym, ap}
use mathlib.Core.Bool.{true}
use mathlib.Core.List.{List, [], ◌++◌, append_assoc, append-nil}
use Prim.Native.Nat.{ℕ, ◌+◌, ◌*◌, ◌%◌, ◌≤◌, ◌<◌}
use native.Mathlib.Numerals.{add-one}
use native.Mathlib.Omega.{arith}
use borrow.Author.Tests.{ne_eqb}
use lib.Dec.{eqb, leb}
use lib.ListN.{length, take, drop, get_or, drop_of_length-le, length-take}
use lib.Seq.{drop-cons, get_or-take}
use Rattle.template_nodes.specs.Bytes.{Parsed, mode_bit, node_from, nodes_in}
use Rattle.template_nodes.specs.Template.{end_node}
use Rattle.template_nodes.specs.declared.Node.{Node}
use Rattle.template_nodes.proofs.Encoding.{Small, node_in, parsed_nodes, parsed_room}
use Rattle.line_buffers.specs.Output.{Put}
use Rattle.line_buffers.proofs.Puts.{put_then}
use Rattle.replay.specs.Answers.{node_text, nodes_text}

-- a node within the first n bytes
part_node : (c : List ℕ) (n at : ℕ) → at + 5 < n → node_from (take n c) at ≡ node_from c at
part_node c n at h = λ i. record {
  start = get_or-take n c at 0 (omega arith) i;
  len = get_or-take n c (at + 1) 0 (omega arith) i * 256 + get_or-take n c (at + 2) 0 (omega arith) i;
  kind = get_or-take n c (at + 3) 0 (omega arith) i;
  pattern = get_or-take n c (at + 4) 0 (omega arith) i;
  suffix = get_or-take n c (at + 5) 0 (omega arith) i % mode_bit;
  accents = leb mode_bit (get_or-take n c (at + 5) 0 (omega arith) i);
}

pub node_is : {ns : List Node} → Small ns → {before after : List ℕ} {r : ℕ} → Parsed ns before after r → (i : ℕ) → i < r
    → get_or (nodes_in after) i end_node ≡ get_or ns i end_node
node_is {ns} small {before} {after} {r} p i h =
    let room = parsed_room p in
    let size : length (take (6 * r) after) ≡ 6 * r = length-take (6 * r) after ∙ omega arith in
    sym (node_in after i (omega arith))
    ∙ sym (part_node after (6 * r) (6 * i) (omega arith))
    ∙ node_in (take (6 * r) after) i (omega arith)
    ∙ ap (λ (l : List Node). get_or l i end_node) (parsed_nodes p small)

-- the buffer with the nodes before node i
pub record Listed (ns : List Node) (out₀ : List ℕ) (at i : ℕ) (out : List ℕ) (next : ℕ) : Type 0 where
  pub done : List ℕ
  pub put : Put out₀ at done out next
  pub whole : done ++ nodes_text (eqb i 0) (drop i ns) ≡ nodes_text true ns

pub begun : (ns : List Node) (out : List ℕ) (at : ℕ) → Listed ns out at 0 out at
begun ns out at = record { done = []; put = record { is = refl; next = omega arith }; whole = refl }

module _ {ns : List Node} {out₀ out : List ℕ} {at i next : ℕ} (d : Listed ns out₀ at i out next) where
  pub more : (n : Node) {out' : List ℕ} {next' : ℕ} → i < length ns → n ≡ get_or ns i end_node → Put out next (node_text (eqb i 0) n) out' next'
      → Listed ns out₀ at (i + 1) out' next'
  unfolding nodes_text
  more n h e put =
      record {
        done = d.done ++ node_text (eqb i 0) n;
        put = put_then out₀ at d.put put;
        whole = rw (append_assoc, ne_eqb (i + 1) 0 (λ q. omega arith), add-one i, e) (rw (drop-cons ns i end_node h) at d.whole);
      }

  pub ended : length ns ≤ i → Put out₀ at (nodes_text true ns) out next
  unfolding nodes_text
  ended h = rw (rw (drop_of_length-le ns h, append-nil) at d.whole) at d.put
