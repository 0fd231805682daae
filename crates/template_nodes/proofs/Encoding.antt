-- Nodes read from the bytes that they were put into.
-- `nodes_back`: the nodes of the bytes of nodes are those nodes, if the bits of their affixes are small (`Small`).
-- `encoded-length`: each has six bytes.
-- `nodes_length`, `node_in`: any bytes hold a node for each six of them; node k is that of the bytes from 6 * k on.
-- `parsed_nodes`, `parsed_room`: the buffer that a template was parsed into holds its nodes, and is long enough.
-- `put_after`: a node put after others. Assumes nothing.
use mathlib.Core.Path.{◌≡◌, refl, ◌∙◌, ap, sym}
use mathlib.Core.Bool.{Bool, true, false}
use mathlib.Core.List.{List, [], ◌∷◌, ◌++◌}
use Prim.Native.Nat.{ℕ, zero, suc, ◌+◌, ◌*◌, ◌/◌, ◌%◌, ◌≤◌, ◌<◌}
use native.Mathlib.Omega.{arith}
use borrow.Author.Tests.{le-leb, lt-leb}
use lib.Dec.{leb}
use lib.ListN.{length, take, drop, get_or, length-append, length-drop}
use lib.Seq.{drop-drop, get_or-drop, sets, sets-eq, take_at, drop_at}
use Rattle.base_notation.specs.Choice.{when◌then◌else◌}
use Rattle.base_notation.specs.Text.{byte_at}
use Rattle.template_nodes.specs.Bytes.{Parsed, bytes_of, encoded, mode_bit, node_from, nodes_to, nodes_in}
use Rattle.template_nodes.specs.Template.{end_node}
use Rattle.template_nodes.specs.declared.Node.{Node}

pub encoded-length : (ns : List Node) → length (encoded ns) ≡ 6 * length ns
unfolding encoded
encoded-length [] = refl
encoded-length (n ∷ ns) = omega (arith, encoded-length ns)

pub encoded-append : (ms ns : List Node) → encoded (ms ++ ns) ≡ encoded ms ++ encoded ns
unfolding encoded
encoded-append [] ns = refl
encoded-append (m ∷ ms) ns = ap (λ (l : List ℕ). bytes_of m ++ l) (encoded-append ms ns)

-- each node is so
abbrev pub All : (Node → Type 0) → List Node → Type 0
All P [] = Unit {0}
All P (n ∷ ns) = P n × All P ns

-- the bits of a node's prefix and suffix are below that of its mode
abbrev pub Small : List Node → Type 0
Small ns = All (λ (n : Node). n.suffix < mode_bit) ns

-- what was put is read
len_back : (k : ℕ) → k / 256 * 256 + k % 256 ≡ k
len_back k = omega arith

module _ (k : ℕ) (small : k < mode_bit) where
  suffix_back : (b : Bool) → (k % mode_bit + (when b then mode_bit else 0)) % mode_bit ≡ k
  suffix_back true = omega arith
  suffix_back false = omega arith

  mode_back : (b : Bool) → leb mode_bit (k % mode_bit + (when b then mode_bit else 0)) ≡ b
  mode_back true = le-leb mode_bit (k % mode_bit + mode_bit) (omega arith)
  mode_back false = lt-leb mode_bit (k % mode_bit + 0) (omega arith)

node_back : (n : Node) → n.suffix < mode_bit → (rest : List ℕ) → node_from (bytes_of n ++ rest) 0 ≡ n
node_back n small rest = λ i. record {
  start = n.start;
  len = len_back n.len i;
  kind = n.kind;
  pattern = n.pattern;
  suffix = suffix_back n.suffix small n.accents i;
  accents = mode_back n.suffix small n.accents i;
}

to_back : (ns : List Node) → Small ns → nodes_to (length ns) (encoded ns) ≡ ns
unfolding nodes_to encoded
to_back [] small = refl
to_back (n ∷ ns) small = λ i. node_back n small.0 (encoded ns) i ∷ to_back ns small.1 i

pub nodes_back : (ns : List Node) → Small ns → nodes_in (encoded ns) ≡ ns
unfolding nodes_in
nodes_back ns small =
    let count_is : length (encoded ns) / 6 ≡ length ns = omega (arith, encoded-length ns) in
    rw count_is (to_back ns small)

-- any bytes: as many nodes as there are sixes, each by its index
to_length : (n : ℕ) (c : List ℕ) → length (nodes_to n c) ≡ n
unfolding nodes_to
to_length zero c = refl
to_length (suc n) c = ap suc (to_length n (drop 6 c))

-- a byte after the first node
past_six : (c : List ℕ) (at k : ℕ) → byte_at (drop 6 c) (at + k) ≡ byte_at c (6 + at + k)
past_six c at k = get_or-drop 6 c (at + k) 0 ∙ ap (byte_at c) (omega arith)

shifted : (c : List ℕ) (at : ℕ) → node_from (drop 6 c) at ≡ node_from c (6 + at)
shifted c at = λ i. record {
  start = get_or-drop 6 c at 0 i;
  len = past_six c at 1 i * 256 + past_six c at 2 i;
  kind = past_six c at 3 i;
  pattern = past_six c at 4 i;
  suffix = past_six c at 5 i % mode_bit;
  accents = leb mode_bit (past_six c at 5 i);
}

to_node : (n : ℕ) (c : List ℕ) (k : ℕ) → k < n → get_or (nodes_to n c) k end_node ≡ node_from c (6 * k)
unfolding nodes_to
to_node zero c k h = absurd (omega arith)
to_node (suc n) c zero h = refl
to_node (suc n) c (suc k) h =
    let place_is : 6 + 6 * k ≡ 6 * suc k = omega arith in
    to_node n (drop 6 c) k (omega arith) ∙ shifted c (6 * k) ∙ rw place_is

module _ (c : List ℕ) where
  pub nodes_length : length (nodes_in c) ≡ length c / 6
  unfolding nodes_in
  nodes_length = to_length (length c / 6) c

  pub node_in : (k : ℕ) → k < length c / 6 → node_from c (6 * k) ≡ get_or (nodes_in c) k end_node
  unfolding nodes_in
  node_in k h = sym (to_node (length c / 6) c k h)

-- a node put after others
pub put_after : (done : List Node) (before : List ℕ) (n : Node) (k : ℕ) → length done ≡ k → 6 * k + 6 ≤ length before
    → sets (encoded done ++ drop (6 * k) before) (6 * k) (bytes_of n) ≡ encoded (done ++ n ∷ []) ++ drop (6 * (k + 1)) before
unfolding encoded
put_after done before n k size room =
    let l = encoded done ++ drop (6 * k) before in
    let done_size : length (encoded done) ≡ 6 * k = omega (arith, encoded-length done, size) in
    let next_place : 6 * (k + 1) ≡ 6 * k + 6 = omega arith in
    sets-eq (bytes_of n) l (6 * k) (omega (arith, length-append (encoded done) (drop (6 * k) before), length-drop (6 * k) before))
    ∙ rw (
      take_at (encoded done) (drop (6 * k) before) (6 * k) done_size,
      ← drop-drop 6 (6 * k) l,
      drop_at (encoded done) (drop (6 * k) before) (6 * k) done_size,
      drop-drop 6 (6 * k) before,
      encoded-append done (n ∷ []),
      next_place,
    )

-- the nodes of a template that was parsed into a buffer
module _ {ns : List Node} {before after : List ℕ} {r : ℕ} (p : Parsed ns before after r) where
  pub parsed_room : 6 * r ≤ length after
  parsed_room = rw p.is (omega (arith, p.count, encoded-length ns, length-append (encoded ns) (drop (6 * length ns) before)))

  pub parsed_nodes : Small ns → nodes_in (take (6 * r) after) ≡ ns
  parsed_nodes small =
      rw (p.is, p.count, take_at (encoded ns) (drop (6 * length ns) before) (6 * length ns) (encoded-length ns))
      (nodes_back ns small)
