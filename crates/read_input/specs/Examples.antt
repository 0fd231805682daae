-- Worked examples: inputs, the fields that they set, and the place that reading comes to.
use Rattle.std.specs.Prelude.{◌≡◌, refl, [], ◌∷◌, map, ℕ, pos}
use Prim.Native.String.{String}
use Rattle.base_notation.specs.Text.{utf8}
use Rattle.template_nodes.specs.Examples.{nodes_compute}
use Rattle.template_nodes.specs.Template.{nodes_of}
use Rattle.read_integers.specs.Suffix.{ends_number}
use Rattle.read_fields.specs.Fields as F
use Rattle.read_fields.specs.Tasks.{task_of}
use Rattle.read_fields.specs.declared.Reading.{Reading}
use Rattle.read_numbers.specs.Numbers.{number_computes}
use Rattle.read_words.specs.Words.{word_computes}
use Rattle.read_offsets.specs.Offsets.{offset_computes}
use Rattle.read_literals.specs.Literals.{literal_passed}
use Rattle.read_input.specs.Reader.{performed, past_spaces, action_read, entered, node_read, read_from, read_all}

-- unfolds all that reading an input by a template is computed by, for worked examples
unfoldable pub reading_computes : ℕ
unfolding read_all read_from node_read entered action_read past_spaces performed literal_passed ends_number task_of nodes_compute number_computes word_computes offset_computes
reading_computes = 0

-- an input that is read by a template
abbrev pub reads : String → String → Reading
reads t s = read_all (utf8 t) (utf8 s) (nodes_of (utf8 t))

-- the literals are passed character by character, whichever they are; the day is 5, and reading ends after it
pub literals
    : (F.get (reads "\"ngày \"DD" "ngày 05").fields F.dd ≡ pos 5) × ((reads "\"ngày \"DD" "ngày 05").place.at ≡ 8)
    × (F.get (reads "\"ngày \"DD" "day: 05").fields F.dd ≡ pos 5)
unfolding reading_computes
literals = (refl, refl, refl)

-- a month by its name, in either case, and the year after it
pub names : map (F.get (reads "Month YYYY" "MARCH 2024").fields) (F.mm ∷ F.year ∷ F.yysz ∷ F.mode ∷ []) ≡ pos 3 ∷ pos 2024 ∷ pos 4 ∷ pos 1 ∷ []
unfolding reading_computes
names = refl
