-- The answer to a question. A question is a line: a name, and items after it; its answer is numbers, the nodes of a
-- template, or what the line program answers to a line. What is unknown or malformed is answered by `?`.
use Rattle.std.specs.Prelude.{Option, Some, None, is_some, Result, Ok, Err, Bool, true, false, List, [], ◌∷◌, ◌++◌, ℕ, eqb, ℤ, pos, nat_abs, take, get_or}
use Prim.Native.Char.{code}
use Rattle.base_notation.specs.Choice.{when◌then◌else◌}
use Rattle.base_notation.specs.Text.{utf8}
use Rattle.base_chars.specs.Character.{char_length}
use Rattle.base_chars.specs.Utf8.{well_formed}
use Rattle.base_strtol.specs.Strtol.{strtol}
use Rattle.base_strtol.specs.declared.Strtol.{Strtol}
use Rattle.calendar_gregorian.specs.Gregorian.{is_leap}
use Rattle.calendar_gregorian.specs.Civil.{days_from_civil}
use Rattle.calendar_julian.specs.ToDay.{date2j}
use Rattle.calendar_julian.specs.ToDate.{j2date}
use Rattle.calendar_julian.specs.Week.{j2day, isoweek2j, date2isoweek, date2isoyear}
use Rattle.calendar_julian.specs.declared.Date.{Date}
use Rattle.template_nodes.specs.Template.{nodes_of}
use Rattle.template_nodes.specs.declared.Node.{Node}
use Rattle.line_buffers.specs.Decimal.{decimal}
use Rattle.line_buffers.specs.Input.{before}
use Rattle.line_answers.specs.Lines.{answer_line}
use Rattle.line_answers.specs.declared.Mode.{Mode}
use Rattle.line_answers.specs.declared.Mode.TheVariants as mode
use Rattle.line_questions.specs.Items.{same, numbers_at, place_at, bytes_at, text_at}
use Rattle.line_questions.specs.declared.Numbers.{Numbers}
use Rattle.line_questions.specs.declared.Place.{Place}
use Rattle.replay.specs.declared.questions.Values.{Values}
use Rattle.replay.specs.declared.questions.Values.TheVariants.{One, Three}

-- whether something is so: 1 or 0
abbrev pub flag : Bool → ℤ
flag true = pos 1
flag false = pos 0

-- the three numbers of a date
abbrev pub date_values : Date → Values
date_values d = Three d.year d.month d.day

-- questions about a Julian day, or about a year
unfoldable pub of_one : List ℕ → ℤ → Option Values
of_one name n =
    when same name (utf8 "j2date") then Some (date_values (j2date n))
    else when same name (utf8 "j2day") then Some (One (j2day n))
    else when same name (utf8 "is_leap") then Some (One (flag (is_leap (nat_abs n))))
    else None

-- the question about a week of a year
unfoldable pub of_two : List ℕ → ℤ → ℤ → Option Values
of_two name year week = when same name (utf8 "isoweek2j") then Some (One (isoweek2j year week)) else None

-- questions about a date
unfoldable pub of_three : List ℕ → ℤ → ℤ → ℤ → Option Values
of_three name y m d =
    when same name (utf8 "date2j") then Some (One (date2j y m d))
    else when same name (utf8 "date2isoweek") then Some (One (date2isoweek y m d))
    else when same name (utf8 "date2isoyear") then Some (One (date2isoyear y m d))
    else when same name (utf8 "days_from_civil") then Some (One (days_from_civil y m d))
    else None

-- a number by its index
abbrev pub value : Numbers → ℕ → ℤ
value n k = get_or n.values k (pos 0)

-- questions about numbers, by how many there are
unfoldable pub of_numbers : List ℕ → Numbers → Option Values
of_numbers name n =
    when eqb n.count 1 then of_one name (value n 0)
    else when eqb n.count 2 then of_two name (value n 0) (value n 1)
    else when eqb n.count 3 then of_three name (value n 0) (value n 1) (value n 2)
    else None

-- an answer about the text that the last item is, of as many bytes as there is room for; another where it is malformed
abbrev pub of_text : {A : Type 0} → List ℕ → ℕ → ℕ → (List ℕ → A) → A → A
of_text line from room answer other = when is_some (bytes_at line from room) then answer (text_at line from) else other

-- an answer about what was read as a place, and a text of at most 512 bytes; none without a place
abbrev pub at_place : List ℕ → Result Place ℕ → (ℕ → List ℕ → Values) → Option Values
at_place line (Ok place) answer = of_text line place.end 512 (λ text. Some (answer place.at text)) None
at_place line (Err from) answer = None

-- an answer about the next item as a place, and the text after it
abbrev pub of_place : List ℕ → ℕ → (ℕ → List ℕ → Values) → Option Values
of_place line from answer = at_place line (place_at line from) answer

-- a number that is read, the place after it, and whether it is past 64 bits
abbrev pub strtol_values : Strtol → Values
strtol_values n = Three n.value (pos n.end) (flag n.overflow)

-- the number at a place
unfoldable pub of_strtol : List ℕ → ℕ → Option Values
of_strtol line from = of_place line from (λ at text. strtol_values (strtol text at))

-- the length of the character at a place
unfoldable pub of_mblen : List ℕ → ℕ → Option Values
of_mblen line from = of_place line from (λ at text. One (pos (char_length text at)))

-- whether a text is well-formed
unfoldable pub of_utf8 : List ℕ → ℕ → Option Values
of_utf8 line from = of_text line from 512 (λ text. Some (One (flag (well_formed text)))) None

-- the numbers that answer a question with a name, whose items begin at a place of the line
unfoldable pub values_of : List ℕ → List ℕ → ℕ → Option Values
values_of name line from =
    when same name (utf8 "strtol") then of_strtol line from
    else when same name (utf8 "mblen") then of_mblen line from
    else when same name (utf8 "utf8") then of_utf8 line from
    else of_numbers name (numbers_at line from)

-- what is unknown or malformed
abbrev pub unknown : List ℕ
unknown = utf8 "?"

-- numbers with a space between two
abbrev pub values_text : Option Values → List ℕ
values_text (Some (One a)) = decimal a
values_text (Some (Three a b c)) = decimal a ++ code " " ∷ decimal b ++ code " " ∷ decimal c
values_text None = unknown

-- a number after a colon
abbrev pub field_text : ℕ → List ℕ
field_text n = code ":" ∷ decimal (pos n)

-- where a node is, its length, pattern and suffix
abbrev pub fields_text : Node → List ℕ
fields_text n = field_text n.start ++ field_text n.len ++ field_text n.pattern ++ field_text n.suffix

-- its kind, and these; a space before it unless it is the first
abbrev pub node_text : Bool → Node → List ℕ
node_text first n = (when first then [] else code " " ∷ []) ++ decimal (pos n.kind) ++ fields_text n

-- nodes, of which the first may be the first of all
unfoldable pub nodes_text : Bool → List Node → List ℕ
nodes_text first [] = []
nodes_text first (n ∷ ns) = node_text first n ++ nodes_text false ns

-- the nodes of a template of at most 256 bytes
unfoldable pub template_text : List ℕ → ℕ → List ℕ
template_text line from = of_text line from 256 (λ text. nodes_text true (nodes_of text)) unknown

-- the line program's answer in a mode to a line of at most 1,024 bytes
unfoldable pub line_text : Mode → List ℕ → ℕ → List ℕ
line_text mode line from = of_text line from 1024 (λ text. answer_line mode text) unknown

-- the mode of a question that asks what the line program answers
unfoldable pub mode_of : List ℕ → Option Mode
mode_of name =
    when same name (utf8 "parts_line") then Some mode.Parts
    else when same name (utf8 "instant_line") then Some mode.Instant
    else when same name (utf8 "date_line") then Some mode.Date
    else when same name (utf8 "write_line") then Some mode.Write
    else None

-- the answer to a question in a mode, or to one that has none
abbrev pub of_mode : Option Mode → List ℕ → List ℕ → ℕ → List ℕ
of_mode (Some m) name line from = line_text m line from
of_mode None name line from = values_text (values_of name line from)

-- the answer to a question with a name, whose items begin at a place of the line
unfoldable pub named_text : List ℕ → List ℕ → ℕ → List ℕ
named_text name line from =
    when same name (utf8 "parse") then template_text line from else of_mode (mode_of name) name line from

-- the answer to a question: its name is before the first space
unfoldable pub answer_to : List ℕ → List ℕ
answer_to line = let end = before (code " ") line in named_text (take end line) line end
