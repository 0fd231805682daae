-- The answer to a line, without the newline at its end.
use Rattle.std.specs.Prelude.{◌≡◌, refl, List, ℕ, ◌+◌, ◌-◌, ◌≤◌, eqb, ltb, length, take, drop}
use Prim.Native.Char.{code}
use Rattle.base_notation.specs.Choice.{when◌then◌else◌}
use Rattle.base_notation.specs.Text.{byte_at, utf8}
use Rattle.base_settings.specs.Limits.{pages}
use Rattle.base_refusals.specs.Report.{report_of}
use Rattle.base_refusals.specs.declared.Refusal.TheVariants.{TooLong}
use Rattle.moment_parts.specs.Parts.{parts_of}
use Rattle.moment_instants.specs.ByTemplate.{date_of, timestamp_of}
use Rattle.write_text.specs.Text.{text_of}
use Rattle.write_text.specs.Writer.{written_to}
use Rattle.line_buffers.specs.Decimal.{digits, significant}
use Rattle.line_buffers.specs.Input.{before}
use Rattle.line_buffers.specs.Output.{Put}
use Rattle.moment_parts.specs.Patterns.{pattern_name}
use Rattle.line_answers.specs.Items.{report_text}
use Rattle.line_answers.specs.Answers.{day_answer, instant_answer, parts_answer, text_answer}
use Rattle.line_answers.specs.Moments.{moment_of}
use Rattle.line_answers.specs.declared.Mode.{Mode}
use Rattle.line_answers.specs.declared.Mode.TheVariants.{Parts, Instant, Date, Write}

-- the longest line: a template and an input at their limits, and the TAB between them
abbrev pub line_limit : ℕ
line_limit = 769

-- the longest text that is written: an input at its limit
abbrev pub text_limit : ℕ
text_limit = 512

-- how many bytes of a line count where a moment is written: a carriage return at the end is no part of the line
unfoldable pub without_return : List ℕ → ℕ
without_return line = when eqb (byte_at line (length line - 1)) (code "\r") then length line - 1 else length line

-- how many count in a mode
unfoldable pub counted : Mode → List ℕ → ℕ
counted Parts line = length line
counted Instant line = length line
counted Date line = length line
counted Write line = without_return line

-- the answer to a template and what follows it, with the settings of the exercise pages
unfoldable pub pair_answer : Mode → List ℕ → List ℕ → List ℕ
pair_answer Parts t s = parts_answer (parts_of pages t s)
pair_answer Instant t s = instant_answer (timestamp_of pages t s)
pair_answer Date t s = day_answer (date_of pages t s)
pair_answer Write t s = text_answer (text_of t (moment_of s)) (written_to pages t (moment_of s) text_limit)

-- the answer to a line that is too long
unfoldable pub too_long_answer : List ℕ
too_long_answer = report_text (report_of TooLong)

-- the answer to all bytes of a line, which is cut at its first TAB; without one nothing follows the template
unfoldable pub whole_answer : Mode → List ℕ → List ℕ
whole_answer mode line =
    let cut = before (code "\t") line in
    when ltb line_limit (length line) then too_long_answer else pair_answer mode (take cut line) (drop (cut + 1) line)

-- the answer to a line
unfoldable pub answer_line : Mode → List ℕ → List ℕ
answer_line mode line = whole_answer mode (take (counted mode line) line)

-- the text is put, and it is short: 0, a space and a text at its limit are the longest answer
pub record Answered (before : List ℕ) (at : ℕ) (text after : List ℕ) (r : ℕ) : Type 0 where
  pub put : Put before at text after r
  pub short : length text ≤ 514

-- a line that is too long; a carriage return counts only where no moment is written
pub worked : (too_long_answer ≡ utf8 "1 - 0 0") × (counted Write (utf8 "DD\r") ≡ 2) × (counted Parts (utf8 "DD\r") ≡ 3) × (counted Write (utf8 "") ≡ 0)
unfolding too_long_answer report_text report_of pattern_name digits significant counted without_return
worked = (refl, refl, refl, refl)
