-- Worked examples: questions and their answers.
use Rattle.std.specs.Prelude.{◌≡◌, refl, List, [], ◌∷◌, map, ℕ}
use Prim.Native.String.{String}
use Rattle.base_notation.specs.Text.{utf8}
use Rattle.base_wrapping.specs.Wrap.{wrap32}
use Rattle.base_chars.specs.Character.{char_length, lead}
use Rattle.base_chars.specs.Utf8.{well_formed_after, sequence}
use Rattle.calendar_gregorian.specs.Civil.{civil_computes}
use Rattle.calendar_julian.specs.ToDay.{date2j, from_march}
use Rattle.calendar_julian.specs.ToDate.{j2date, day_from_march, with_skipped, shifted}
use Rattle.calendar_julian.specs.Week.{j2day, week_one, isoweek2j, counted_from, week_of, week_year, date2isoweek, date2isoyear}
use Rattle.template_nodes.specs.Examples.{nodes_compute}
use Rattle.line_buffers.specs.Decimal.{digits, significant}
use Rattle.line_answers.specs.Answers.{moment_text, parts_answer}
use Rattle.line_answers.specs.Examples.{line_computes}
use Rattle.line_questions.specs.Items.{items_compute}
use Rattle.replay.specs.Answers.{of_one, of_two, of_three, of_numbers, of_strtol, of_mblen, of_utf8, values_of, nodes_text, template_text, line_text, mode_of, named_text, answer_to}

-- unfolds all that an answer is computed by
unfoldable pub answers_compute : ℕ
unfolding of_one of_two of_three of_numbers of_strtol of_mblen of_utf8 values_of nodes_text template_text mode_of named_text answer_to digits significant items_compute
answers_compute = 0

abbrev answers : List String → List (List ℕ)
answers lines = map (λ (line : String). answer_to (utf8 line)) lines

-- the calendar
pub days
    : answers ("date2j 2000 1 1" ∷ "j2date 2451545" ∷ "j2day 2451545" ∷ "days_from_civil 1970 1 2" ∷ [])
    ≡ map utf8 ("2451545" ∷ "2000 1 1" ∷ "6" ∷ "1" ∷ [])
unfolding answers_compute date2j from_march wrap32 j2date day_from_march with_skipped shifted j2day civil_computes
days = refl

pub weeks
    : answers ("isoweek2j 2024 1" ∷ "date2isoweek 2021 1 3" ∷ "date2isoyear 2021 1 3" ∷ "is_leap 1900" ∷ "is_leap 2000" ∷ [])
    ≡ map utf8 ("2460311" ∷ "53" ∷ "2020" ∷ "0" ∷ "1" ∷ [])
unfolding answers_compute isoweek2j week_one date2isoweek date2isoyear counted_from week_of week_year date2j from_march wrap32 j2day
weeks = refl

-- x-12 from place 1 on; no bytes, from a place past their end; a number past 64 bits
pub numbers
    : answers ("strtol 1 782d3132" ∷ "strtol 3 -" ∷ "strtol 0 39323233333732303336383534373735383038" ∷ [])
    ≡ map utf8 ("-12 4 0" ∷ "0 3 0" ∷ "9223372036854775807 19 1" ∷ [])
unfolding answers_compute
numbers = refl

-- à has two bytes; its second alone is not well-formed
pub characters
    : answers ("mblen 0 c3a0" ∷ "mblen 2 c3a0" ∷ "utf8 C3A0" ∷ "utf8 a0" ∷ "utf8 -" ∷ [])
    ≡ map utf8 ("2" ∷ "0" ∷ "1" ∷ "0" ∷ "1" ∷ [])
unfolding answers_compute char_length lead well_formed_after sequence
characters = refl

-- FMDD-MM: kind, start, length, pattern and suffix of each node
pub template : answer_to (utf8 "parse 464d44442d4d4d") ≡ utf8 "1:2:2:9:1 3:4:1:0:0 1:5:2:33:0"
unfolding answers_compute nodes_compute
template = refl

-- a name that is unknown; too few and too many numbers; one past 32 bits; no place; half a byte
pub refused
    : answers ("" ∷ "j2d 1" ∷ "date2j 2000 1" ∷ "j2day 1 " ∷ "j2day 2147483648" ∷ "mblen -1 31" ∷ "utf8 3" ∷ "parse" ∷ [])
    ≡ map utf8 ("?" ∷ "?" ∷ "?" ∷ "?" ∷ "?" ∷ "?" ∷ "?" ∷ "?" ∷ [])
unfolding answers_compute
refused = refl

-- MM-DD with 02-30 as the line program answers it; half a byte
pub lines : answers ("parts_line 4d4d2d44440930322d3330" ∷ "date_line 4" ∷ []) ≡ map utf8 ("0 0 2 30 0 0 0 0 0 none 6" ∷ "?" ∷ [])
unfolding answers_compute line_text line_computes parts_answer moment_text
lines = refl
