-- The nodes of a template, as parse_format of formatting.c makes them; in the accents mode a letter with its accents is
-- one character. Every node says in which mode it was made.
use Rattle.std.specs.Prelude.{◌≡◌, Bool, true, false, not, ◌&&◌, ◌||◌, List, [], ◌∷◌, ◌++◌, ℕ, zero, suc, ◌+◌, ◌<◌, ◌≤◌, eqb, ltb, length, Option, None, Some}
use Prim.Native.Char.{code}
use Rattle.std.specs.Int.Bits.{bit_or}
use Rattle.base_notation.specs.Choice.{when◌then◌else◌}
use Rattle.base_notation.specs.Text.{byte_at}
use Rattle.base_chars.specs.Class.{is_separator, is_space}
use Rattle.base_accents.specs.Accents.{measure_of}
use Rattle.template_patterns.specs.Affixes.{bit_at, affix_length}
use Rattle.template_patterns.specs.Search.{pattern_at}
use Rattle.template_patterns.specs.declared.Found.{Found}
use Rattle.template_nodes.specs.declared.Node.{Node}
use Rattle.template_nodes.specs.declared.Step.{Step}

-- the kinds of a node
abbrev pub end : ℕ
end = 0

abbrev pub action : ℕ
action = 1

abbrev pub character : ℕ
character = 2

abbrev pub separator : ℕ
separator = 3

abbrev pub space : ℕ
space = 4

abbrev pub quote : ℕ
quote = code "\""

abbrev pub backslash : ℕ
backslash = code "\\"

-- the kind of a character outside quotes, by its first byte
unfoldable pub kind_of : ℕ → ℕ
kind_of b = when is_separator b then separator else when is_space b then space else character

-- a literal character of a kind
abbrev pub literal : ℕ → ℕ → ℕ → Node
literal kind start len = record { start = start; len = len; kind = kind; pattern = 0; suffix = 0; accents = false }

-- a pattern by its number in the table, with the bits of its prefix and suffix
abbrev pub pattern : ℕ → ℕ → ℕ → ℕ → Node
pattern start len number bits =
    record { start = start; len = len; kind = action; pattern = number; suffix = bits; accents = false }

-- a node of the accents mode, or of the other
abbrev pub in_mode : Bool → Node → Node
in_mode accents n =
    record { start = n.start; len = n.len; kind = n.kind; pattern = n.pattern; suffix = n.suffix; accents = accents }

-- what comes after the last node
abbrev pub end_node : Node
end_node = literal end 0 0

-- a step that makes no node, and one that makes a node
abbrev pub skip : ℕ → Bool → Step
skip next quoted = record { made = None; next = next; quoted = quoted }

abbrev pub make : Node → ℕ → Bool → Step
make node next quoted = record { made = Some node; next = next; quoted = quoted }

-- one character as a node
abbrev pub char_at : Bool → List ℕ → ℕ → ℕ → Bool → Step
char_at accents t at kind quoted =
    let n = measure_of accents t at in make (in_mode accents (literal kind at n)) (at + n) quoted

-- a backslash at a place makes the next character plain: in quotes unless it is the last byte,
-- outside quotes only before a quote
abbrev pub escapes : List ℕ → ℕ → Bool → Bool
escapes t at quoted = eqb (byte_at t at) backslash && (when quoted then ltb (at + 1) (length t) else eqb (byte_at t (at + 1)) quote)

-- a character in quotes that neither ends them nor makes the next one plain
abbrev pub is_quoted_char : List ℕ → ℕ → Bool → Bool
is_quoted_char t at quoted = quoted && (not (eqb (byte_at t at) quote) && not (eqb (byte_at t at) backslash))

-- a byte below 64 that is a node by itself wherever it is outside quotes: a space, or a separator but for a quote
abbrev pub is_single : ℕ → Bool
is_single b = ltb b 64 && ((is_space b || is_separator b) && not (eqb b quote))

-- where the literal character is
unfoldable pub char_place : List ℕ → ℕ → Bool → ℕ
char_place t at quoted = when escapes t at quoted then at + 1 else at

-- r is that place, within the template
pub record Placed (t : List ℕ) (at : ℕ) (quoted : Bool) (r : ℕ) : Type 0 where
  pub is : r ≡ char_place t at quoted
  pub from : at ≤ r
  pub near : r ≤ at + 1
  pub within : r < length t

-- a quote begins or ends a quoted text; any other character is a node, in quotes a plain character
unfoldable pub literal_at : Bool → List ℕ → ℕ → Bool → Step
literal_at accents t at quoted =
    when eqb (byte_at t at) quote then skip (at + 1) (not quoted)
    else let place = char_place t at quoted in char_at accents t place (when quoted then character else kind_of (byte_at t place)) quoted

-- a pattern's name at a place, and the suffix after it
abbrev pub action_at : Bool → List ℕ → ℕ → ℕ → Found → Step
action_at accents t at prefix found =
    let suffix = bit_at false t (at + found.len) in
    make (in_mode accents (pattern at found.len found.number (bit_or prefix suffix))) (at + found.len + affix_length suffix) false

-- a pattern, or a literal: the prefix before a literal is dropped
abbrev pub element_of : Bool → Option Found → List ℕ → ℕ → ℕ → Step
element_of accents (Some found) t at prefix = action_at accents t at prefix found
element_of accents None t at prefix = literal_at accents t at false

abbrev pub element_at : Bool → List ℕ → ℕ → ℕ → Step
element_at accents t at prefix = element_of accents (pattern_at t at) t at prefix

-- outside quotes: a prefix, if there is one, and what follows it; at the end the prefix is dropped
unfoldable pub plain_at : Bool → List ℕ → ℕ → Step
plain_at accents t at =
    let prefix = bit_at true t at in
    let start = at + affix_length prefix in
    when ltb start (length t) then element_at accents t start prefix else skip start false

unfoldable pub step_at : Bool → List ℕ → ℕ → Bool → Step
step_at accents t at quoted = when quoted then literal_at accents t at true else plain_at accents t at

-- r is the step s from at on; it takes at least one byte
pub record Stepped (at : ℕ) (s r : Step) : Type 0 where
  pub is : r ≡ s
  pub on : at < r.next

-- the node, if there is one
abbrev pub in_list : Option Node → List Node
in_list (Some n) = n ∷ []
in_list None = []

abbrev pub made_by : Step → List Node
made_by s = in_list s.made

-- the nodes from a place on, in at most fuel steps
unfoldable pub nodes_from : Bool → ℕ → List ℕ → ℕ → Bool → List Node
nodes_from accents zero t at quoted = []
nodes_from accents (suc fuel) t at quoted =
    when ltb at (length t)
    then (let s = step_at accents t at quoted in made_by s ++ nodes_from accents fuel t s.next s.quoted)
    else []

-- the nodes of a template in the accents mode or the other; each step takes a byte at least, so its length is enough
-- fuel. Quotes may stay open at the end.
unfoldable pub nodes_by : Bool → List ℕ → List Node
nodes_by accents t = nodes_from accents (length t) t 0 false

-- its nodes as PostgreSQL has them, each character by itself
abbrev pub nodes_of : List ℕ → List Node
nodes_of t = nodes_by false t
