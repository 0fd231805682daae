-- Where reading is in the input: spaces that are skipped, and literals of the template.
use Rattle.std.specs.Prelude.{◌≡◌, Bool, false, ◌&&◌, ◌||◌, List, ℕ, ◌+◌, ◌≤◌, pred, eqb, ltb, length, drop}
use Rattle.base_notation.specs.Choice.{when◌then◌else◌}
use Rattle.base_notation.specs.Text.{byte_at}
use Rattle.base_accents.specs.Accents.{measure_of}
use Rattle.base_chars.specs.Class.{is_space, is_separator}
use Rattle.base_strtol.specs.Runs.{spaces}
use Rattle.template_nodes.specs.Template.{separator, space}
use Rattle.template_nodes.specs.declared.Node.{Node}
use Rattle.read_fields.specs.Fields.{is_exact, at_place}
use Rattle.read_fields.specs.declared.Place.{Place}

-- where reading is, how many skipped spaces may still pay for literals, and whether FX was read
abbrev pub place : ℕ → ℕ → Bool → Place
place at extra fx = record { at = at; extra = extra; fx = when fx then 1 else 0 }

-- past the spaces, which pay for literals to come
abbrev pub skipped : List ℕ → Place → Place
skipped s p = let k = spaces (drop p.at s) in place (p.at + k) (p.extra + k) false

-- without FX the spaces after a field are skipped, and pay for literals to come
abbrev pub past_field : List ℕ → Place → Place
past_field s p = when is_exact p then p else skipped s (place p.at 0 false)

-- without FX no more spaces were skipped than the input has bytes
abbrev pub Payable : List ℕ → Place → Type 0
Payable s p = is_exact p ≡ false → p.extra ≤ length s

-- one character, as the literal's mode measures it
abbrev pub char_passed : List ℕ → Node → Place → Place
char_passed s n p = at_place p (p.at + measure_of n.accents s p.at)

-- a space or separator takes one of the input, or a skipped space
abbrev pub blank_passed : List ℕ → Place → Place
blank_passed s p =
    let b = byte_at s p.at in
    when ltb p.at (length s) && (is_space b || is_separator b) then place (p.at + 1) p.extra false
    else place p.at (pred p.extra) false

-- a literal that is no space or separator takes a skipped space, or one character. With FX each literal takes one
-- character
unfoldable pub literal_passed : List ℕ → Node → Place → Place
literal_passed s n p =
    when is_exact p then char_passed s n p
    else when eqb n.kind separator || eqb n.kind space then blank_passed s p
    else when ltb 0 p.extra then place p.at (pred p.extra) false
    else char_passed s n p

-- before a node: past the spaces where they may be skipped, unless FX was read
abbrev pub entered_by : List ℕ → Bool → Place → Place
entered_by s skip p = when is_exact p then p else when skip then skipped s p else p
