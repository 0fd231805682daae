-- Worked examples: templates and their nodes.
use Rattle.std.specs.Prelude.{◌≡◌, refl, [], ◌∷◌, ℕ}
use Rattle.base_notation.specs.Text.{utf8}
use Rattle.base_accents.specs.Accents.{measure_computes}
use Rattle.template_patterns.specs.Affixes.{bit_at}
use Rattle.template_patterns.specs.Search.{pattern_at}
use Rattle.template_nodes.specs.Template.{character, separator, space, literal, pattern, kind_of, char_place, literal_at, plain_at, step_at, nodes_from, nodes_by, nodes_of}

-- unfolds all that the nodes of a template are computed by
unfoldable pub nodes_compute : ℕ
unfolding nodes_by nodes_from step_at plain_at char_place literal_at pattern_at bit_at kind_of measure_computes
nodes_compute = 0

-- no bytes, no nodes
pub empty : nodes_of [] ≡ []
unfolding nodes_compute
empty = refl

-- a letter of two bytes is one node; a quoted space is a character
pub vietnamese
    : nodes_of (utf8 "\"ngày \"DD\" tháng \"MM")
    ≡ literal character 1 1
    ∷ literal character 2 1
    ∷ literal character 3 2
    ∷ literal character 5 1
    ∷ literal character 6 1
    ∷ pattern 8 2 9 0
    ∷ literal character 11 1
    ∷ literal character 12 1
    ∷ literal character 13 1
    ∷ literal character 14 2
    ∷ literal character 16 1
    ∷ literal character 17 1
    ∷ literal character 18 1
    ∷ pattern 20 2 33 0
    ∷ []
unfolding nodes_compute
vietnamese = refl

-- a prefix (1), a suffix (4), a separator and spaces outside quotes
pub ordinal
    : nodes_of (utf8 "FMMonth DDth, YYYY")
    ≡ pattern 2 5 37 1
    ∷ literal space 7 1
    ∷ pattern 8 2 9 4
    ∷ literal separator 12 1
    ∷ literal space 13 1
    ∷ pattern 14 4 54 0
    ∷ []
unfolding nodes_compute
ordinal = refl

pub time
    : nodes_of (utf8 "HH24:MI:SS.US")
    ≡ pattern 0 4 21 0
    ∷ literal separator 4 1
    ∷ pattern 5 2 32 0
    ∷ literal separator 7 1
    ∷ pattern 8 2 46 0
    ∷ literal separator 10 1
    ∷ pattern 11 2 50 0
    ∷ []
unfolding nodes_compute
time = refl

-- quotes that stay open, with a quote after a backslash in them
pub open_quote : nodes_of (utf8 "\"a\\\"b") ≡ literal character 1 1 ∷ literal character 3 1 ∷ literal character 4 1 ∷ []
unfolding nodes_compute
open_quote = refl

-- outside quotes a backslash makes the quote after it plain, which is a separator
pub escaped : nodes_of (utf8 "\\\"x") ≡ literal separator 1 1 ∷ literal character 2 1 ∷ []
unfolding nodes_compute
escaped = refl

-- a prefix before a literal and one at the end are dropped
pub dropped : nodes_of (utf8 "FM\"x\"FM") ≡ literal character 3 1 ∷ []
unfolding nodes_compute
dropped = refl

-- the longest name first: SSSSS, then SS
pub seconds : nodes_of (utf8 "SSSSSSS") ≡ pattern 0 5 44 0 ∷ pattern 5 2 46 0 ∷ []
unfolding nodes_compute
seconds = refl
