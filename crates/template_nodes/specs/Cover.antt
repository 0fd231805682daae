-- A template is covered by its nodes: each of its bytes is in one node, in order, but for quotes, backslashes that make
-- the next character plain, prefixes and suffixes. It holds in both modes of characters.
use Rattle.std.specs.Prelude.{◌≡◌, refl, Bool, true, false, not, List, [], ◌∷◌, ◌++◌, ℕ, ◌+◌, ◌≤◌, ◌<◌, eqb, length}
use Rattle.std.proofs.Common.{arith}
use Rattle.std.specs.Int.Bits.{bit_or}
use Rattle.std.proofs.Math.Seq.{slice}
use Rattle.base_notation.specs.Choice.{when◌then◌else◌}
use Rattle.base_notation.specs.Text.{byte_at, utf8}
use Rattle.base_accents.specs.Accents.{measure_of, measure_computes}
use Rattle.template_patterns.specs.Affixes.{affix_length, bit_at}
use Rattle.template_patterns.specs.Patterns.{name_of}
use Rattle.template_nodes.specs.Template.{action, backslash, character, escapes, in_mode, kind_of, literal, nodes_by, pattern, quote}
use Rattle.template_nodes.specs.declared.Node.{Node}

-- empty, or a prefix (FM fm TM tm); where no prefix is wanted, empty or a suffix (TH th SP)
abbrev pub IsAffix : Bool → List ℕ → Type 0
IsAffix wanted s = length s ≡ affix_length (bit_at wanted s 0)

-- c is the first character of c ++ t
pub record IsCharacter (accents : Bool) (c t : List ℕ) : Type 0 where
  pub some : 1 ≤ length c
  pub one : length c ≡ measure_of accents (c ++ t) 0

-- the node of a character at a place: in quotes a plain character, outside of the kind of its first byte
abbrev pub literal_node : Bool → Bool → ℕ → List ℕ → Node
literal_node accents quoted at c = in_mode accents (literal (when quoted then character else kind_of (byte_at c 0)) at (length c))

-- the node of a pattern between a prefix and a suffix, each of which may be empty
abbrev pub pattern_node : Bool → ℕ → List ℕ → ℕ → List ℕ → Node
pattern_node accents at prefix k suffix =
    in_mode accents (pattern (at + length prefix) (length (name_of k)) k (bit_or (bit_at true prefix 0) (bit_at false suffix 0)))

-- the text from a place on, in quotes or outside, is covered by nodes; each line below is one way in which it goes on
pub data Covers (accents : Bool) : Bool → ℕ → List ℕ → List Node → Type 0 where
  -- nothing is left; quotes may be open
  at_end : {quoted : Bool} {at : ℕ} → Covers accents quoted at [] []
  -- a quote makes no node
  at_quote : {quoted : Bool} {at : ℕ} {t : List ℕ} {ns : List Node} → Covers accents (not quoted) (at + 1) t ns → Covers accents quoted at (quote ∷ t) ns
  -- outside quotes a prefix may be dropped
  at_prefix : {at : ℕ} {t : List ℕ} {ns : List Node} (prefix : List ℕ) → IsAffix true prefix → Covers accents false (at + length prefix) t ns
      → Covers accents false at (prefix ++ t) ns
  -- outside quotes a pattern's name is a node; a prefix before it and a suffix after it are its bits
  at_name : {at : ℕ} {t : List ℕ} {ns : List Node} (prefix : List ℕ) (k : ℕ) (suffix : List ℕ) → IsAffix true prefix → k < 112 → IsAffix false suffix
      → Covers accents false (at + length prefix + length (name_of k) + length suffix) t ns
      → Covers accents false at (prefix ++ name_of k ++ suffix ++ t) (pattern_node accents at prefix k suffix ∷ ns)
  -- a character is a node, unless it is a quote or a backslash that makes the next one plain
  at_character : {quoted : Bool} {at : ℕ} {t : List ℕ} {ns : List Node} (c : List ℕ) → IsCharacter accents c t → eqb (byte_at c 0) quote ≡ false
      → escapes (c ++ t) 0 quoted ≡ false → Covers accents quoted (at + length c) t ns → Covers accents quoted at (c ++ t) (literal_node accents quoted at c ∷ ns)
  -- any character after such a backslash is a node; the backslash makes none
  at_backslash : {quoted : Bool} {at : ℕ} {t : List ℕ} {ns : List Node} (c : List ℕ) → IsCharacter accents c t → escapes (backslash ∷ c ++ t) 0 quoted ≡ true
      → Covers accents quoted (at + 1 + length c) t ns → Covers accents quoted at (backslash ∷ c ++ t) (literal_node accents quoted (at + 1) c ∷ ns)

-- the bytes of a node are in the template, at least one, and those of a pattern's node are its name
pub record InTemplate (t : List ℕ) (n : Node) : Type 0 where
  pub some : 1 ≤ n.len
  pub within : n.start + n.len ≤ length t
  pub name : n.kind ≡ action → (n.pattern < 112) × (slice n.start (n.start + n.len) t ≡ name_of n.pattern)

-- so are all nodes, in order from a place on: each begins where the one before it ends, or later
abbrev pub InOrder : List ℕ → ℕ → List Node → Type 0
InOrder t at [] = Unit {0}
InOrder t at (n ∷ ns) = (at ≤ n.start) × InTemplate t n × InOrder t (n.start + n.len) ns

-- what holds of every template, in both modes; `covered` in proofs/Cover.antt is the theorem
pub record Covered (accents : Bool) (t : List ℕ) : Type 0 where
  pub whole : Covers accents false 0 t (nodes_by accents t)
  pub each : InOrder t 0 (nodes_by accents t)

-- a prefix, a pattern, and in quotes a character and a quote after a backslash
pub worked : Covers false false 0 (utf8 "FMDDth\"x\\\"\"") (pattern 2 2 9 5 ∷ literal character 7 1 ∷ literal character 9 1 ∷ [])
unfolding bit_at measure_computes
worked =
    at_name (utf8 "FM") 9 (utf8 "th") refl (omega arith) refl
    (at_quote
    (at_character (utf8 "x") (record { some = omega arith; one = refl }) refl refl
    (at_backslash (utf8 "\"") (record { some = omega arith; one = refl }) refl (at_quote at_end))))
