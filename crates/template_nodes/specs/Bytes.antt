-- Nodes as bytes: a compiled template is lent as the bytes of its nodes, six each.
use Rattle.std.specs.Prelude.{◌≡◌, refl, true, List, [], ◌∷◌, ◌++◌, ℕ, zero, suc, ◌+◌, ◌*◌, ◌/◌, ◌%◌, ◌≤◌, leb, length, drop, Option, None, Some}
use Rattle.std.proofs.lemmas.List.Edits.{sets}
use Rattle.base_notation.specs.Choice.{when◌then◌else◌}
use Rattle.base_notation.specs.Text.{byte_at}
use Rattle.template_nodes.specs.Template.{character, in_mode, literal, made_by, pattern}
use Rattle.template_nodes.specs.declared.Node.{Node}
use Rattle.template_nodes.specs.declared.Step.{Step}

-- the bits of a prefix and a suffix are below 128; the bit of the accents mode is above them
abbrev pub mode_bit : ℕ
mode_bit = 128

-- its start, its length, the high byte first, its kind, pattern, and suffix with the mode
abbrev pub bytes_of : Node → List ℕ
bytes_of n =
    n.start ∷ n.len / 256 ∷ n.len % 256 ∷ n.kind ∷ n.pattern ∷ (n.suffix % mode_bit + (when n.accents then mode_bit else 0)) ∷ []

unfoldable pub encoded : List Node → List ℕ
encoded [] = []
encoded (n ∷ ns) = bytes_of n ++ encoded ns

-- the node of the bytes from a place on
abbrev pub node_from : List ℕ → ℕ → Node
node_from c at =
    record {
      start = byte_at c at;
      len = byte_at c (at + 1) * 256 + byte_at c (at + 2);
      kind = byte_at c (at + 3);
      pattern = byte_at c (at + 4);
      suffix = byte_at c (at + 5) % mode_bit;
      accents = leb mode_bit (byte_at c (at + 5));
    }

-- n nodes
unfoldable pub nodes_to : ℕ → List ℕ → List Node
nodes_to zero c = []
nodes_to (suc n) c = node_from c 0 ∷ nodes_to n (drop 6 c)

-- the nodes of any bytes; up to five bytes left over after them make none
unfoldable pub nodes_in : List ℕ → List Node
nodes_in c = nodes_to (length c / 6) c

-- the buffer `after` has the nodes' bytes in front, and after them what it had before;
-- r is how many nodes they are, at most 256
pub record Parsed (ns : List Node) (before after : List ℕ) (r : ℕ) : Type 0 where
  pub is : after ≡ encoded ns ++ drop (6 * length ns) before
  pub count : r ≡ length ns
  pub few : r ≤ 256

-- the buffer with a node put as number i, if there is one
abbrev pub with_node : Option Node → List ℕ → ℕ → List ℕ
with_node (Some n) before i = sets before (6 * i) (bytes_of n)
with_node None before i = before

-- the buffer with the node of a step put as number i, if the step made one; r is how many nodes there are then
pub record Put (s : Step) (before after : List ℕ) (i r : ℕ) : Type 0 where
  pub is : after ≡ with_node s.made before i
  pub count : r ≡ i + length (made_by s)

-- two nodes, and five bytes over
pub worked : nodes_in (encoded (pattern 0 4 54 1 ∷ literal character 200 2 ∷ []) ++ 7 ∷ 7 ∷ 7 ∷ 7 ∷ 7 ∷ []) ≡ pattern 0 4 54 1 ∷ literal character 200 2 ∷ []
unfolding nodes_in nodes_to encoded
worked = refl

-- a letter of two bytes with 127 marks is one node of 256 bytes in the accents mode
pub marked
    : (bytes_of (in_mode true (literal character 0 256)) ≡ 0 ∷ 1 ∷ 0 ∷ character ∷ 0 ∷ 128 ∷ [])
    × (node_from (0 ∷ 1 ∷ 0 ∷ character ∷ 0 ∷ 128 ∷ []) 0 ≡ in_mode true (literal character 0 256))
marked = (refl, refl)
