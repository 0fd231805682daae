-- Worked examples: lines in each mode, and their answers.
use Rattle.std.specs.Prelude.{◌≡◌, refl, ℕ}
use Rattle.base_notation.specs.Text.{utf8}
use Rattle.base_chars.specs.Utf8.{sequence, well_formed_after}
use Rattle.base_settings.specs.Limits.{limits_compute}
use Rattle.base_refusals.specs.Report.{report_of}
use Rattle.base_strtol.specs.Decimal as D
use Rattle.base_strtol.specs.Runs.{leading}
use Rattle.base_strtol.specs.Strtol.{strtol_computes}
use Rattle.calendar_gregorian.specs.Civil.{civil_computes}
use Rattle.read_input.specs.Examples.{reading_computes}
use Rattle.moment_date.specs.Dates.{date_computes}
use Rattle.moment_time.specs.Time.{time_computes}
use Rattle.moment_parts.specs.Report.{unread_report}
use Rattle.moment_parts.specs.Parts.{checked_moment, moment_of as parts_moment, parts_of, parts_read}
use Rattle.moment_instants.specs.ByTemplate.{date_of, timestamp_of}
use Rattle.moment_instants.specs.Instant.{day_of, instant_of, less_offset, rounded_to, seconds_of, wall_of}
use Rattle.moment_instants.specs.Report.{undated_report}
use Rattle.write_pieces.specs.Moment.{is_moment}
use Rattle.write_pieces.specs.Pieces as P
use Rattle.write_text.specs.Report.{unwritten_report}
use Rattle.write_text.specs.Text.{node_text, nodes_text, text_of}
use Rattle.write_text.specs.Writer.{first_unwritten, written_to}
use Rattle.template_patterns.specs.Cases.{case_of}
use Rattle.template_nodes.specs.Examples.{nodes_compute}
use Rattle.line_numbers.specs.Items.{items_of}
use Rattle.line_numbers.specs.Numbers.{narrow, narrowed, number_of}
use Rattle.line_buffers.specs.Decimal.{digits, significant}
use Rattle.moment_parts.specs.Patterns.{pattern_name}
use Rattle.line_answers.specs.Items.{report_text}
use Rattle.line_answers.specs.Answers.{day_answer, instant_answer, moment_text, parts_answer, text_answer}
use Rattle.line_answers.specs.Moments.{moment_of, numbers_in, seven_of}
use Rattle.line_answers.specs.Lines.{answer_line, counted, pair_answer, whole_answer, without_return}
use Rattle.line_answers.specs.declared.Mode.TheVariants.{Parts, Instant, Date, Write}

-- unfolds all that the answer to a line is computed by, for worked examples
unfoldable pub line_computes : ℕ
unfolding answer_line whole_answer pair_answer counted without_return leading report_text pattern_name digits significant unread_report report_of parts_of parts_read limits_compute parts_moment checked_moment well_formed_after sequence reading_computes time_computes date_computes
line_computes = 0

-- the parts of a moment: February 29 of 2024, a day without a year, and one that 2023 has not
pub parts
    : (answer_line Parts (utf8 "YYYY-MM-DD\t2024-02-29") ≡ utf8 "0 2024 2 29 0 0 0 0 0 none 7")
    × (answer_line Parts (utf8 "MM-DD\t02-30") ≡ utf8 "0 0 2 30 0 0 0 0 0 none 6")
    × (answer_line Parts (utf8 "YYYY-MM-DD\t2023-02-29") ≡ utf8 "15 - 0 0")
unfolding line_computes parts_answer moment_text
parts = (refl, refl, refl)

-- the same in Vietnamese; what follows a number is ignored at the template's end
pub vietnamese
    : (answer_line Parts (utf8 "\"ngày \"DD\" tháng \"MM\" năm \"YYYY\tngày 29 tháng 02 năm 2024") ≡ utf8 "0 2024 2 29 0 0 0 0 0 none 7")
    × (answer_line Parts (utf8 "\"ngày \"DD\" tháng \"MM\tngày 30 tháng 02") ≡ utf8 "0 0 2 30 0 0 0 0 0 none 6")
    × (answer_line Parts (utf8 "\"ngày\"DD\tngày 3x") ≡ utf8 "0 0 1 3 0 0 0 0 0 none 4")
unfolding line_computes parts_answer moment_text
vietnamese = (refl, refl, refl)

-- the microseconds since 1970
pub instants
    : (answer_line Instant (utf8 "YYYY-MM-DD HH24:MI:SS.US TZH\t2024-02-29 21:05:00.5 +07") ≡ utf8 "0 1709215500500000")
    × (answer_line Instant (utf8 "YYYY\t294248") ≡ utf8 "17 - 0 0")
unfolding line_computes instant_answer timestamp_of instant_of wall_of seconds_of less_offset rounded_to undated_report civil_computes
instants = (refl, refl)

-- the days since 1970
pub days
    : (answer_line Date (utf8 "IYYY-IW-ID\t2024-09-4") ≡ utf8 "0 19782")
    × (answer_line Date (utf8 "YYYY-MM-DD\t2023-02-29") ≡ utf8 "15 - 0 0")
unfolding line_computes day_answer date_of day_of undated_report civil_computes
days = (refl, refl)

-- the text of a moment; a carriage return at the end is no part of the line
pub texts
    : (answer_line Write (utf8 "\"ngày \"DD\" tháng \"MM\" năm \"YYYY\" \"HH24:MI:SS.US\t2024 2 29 9 5 0 0")
    ≡ utf8 "0 ngày 29 tháng 02 năm 2024 09:05:00.000000")
    × (answer_line Write (utf8 "YYYY-DDD HH12:MI:SS a.m.\t2024 2 29 21 5 0 0\r") ≡ utf8 "0 2024-060 09:05:00 p.m.")
    × (answer_line Write (utf8 "DD FMMonth YYYY\t2024 5 5 0 0 0 0") ≡ utf8 "0 05 May 2024")
    × (answer_line Write (utf8 "DDMONYYYY\t2024 5 5 0 0 0 0") ≡ utf8 "0 05MAY2024")
    × (answer_line Write (utf8 "DD Month YYYY\t2024 5 5 0 0 0 0") ≡ utf8 "19 Month 0 0")
    × (answer_line Write (utf8 "YYYY-MM-DD\t2023 2 29 0 0 0 0") ≡ utf8 "20 - 0 0")
unfolding line_computes text_answer text_of nodes_text node_text written_to first_unwritten unwritten_report moment_of seven_of numbers_in items_of narrow narrowed number_of strtol_computes is_moment P.piece_of P.piece_text P.number_of case_of D.decimal nodes_compute
texts = (refl, refl, refl, refl, refl, refl)
