-- The answers to the lines of a text, each with its newline.
use Rattle.std.specs.Prelude.{◌≡◌, refl, Bool, true, false, List, [], ◌∷◌, ◌++◌, ℕ, ◌≤◌, eqb, length, drop}
use Prim.Native.Char.{code}
use Rattle.base_notation.specs.Choice.{when◌then◌else◌}
use Rattle.base_notation.specs.Text.{utf8}
use Rattle.line_answers.specs.Answers.{moment_text, parts_answer}
use Rattle.line_answers.specs.Examples.{line_computes}
use Rattle.line_answers.specs.Lines.{answer_line, too_long_answer}
use Rattle.line_answers.specs.declared.Mode.{Mode}
use Rattle.line_answers.specs.declared.Mode.TheVariants.{Parts}
use Rattle.line_buffers.specs.Input.{before}
use Rattle.line_buffers.specs.Output.{Put}
use Rattle.line_texts.specs.declared.Done.{Done}

abbrev pub newline : ℕ
newline = code "\n"

-- the answer to a line and its newline; `long` says that the line's beginning was left off
abbrev pub answer_to : Mode → Bool → List ℕ → List ℕ
answer_to mode long line = (when long then too_long_answer else answer_line mode line) ++ newline ∷ []

-- the answers to the lines that end in a text, where the bytes before the text's first one are an unfinished line
unfoldable pub answers_after : Mode → Bool → List ℕ → List ℕ → List ℕ
answers_after mode long line [] = []
answers_after mode long line (b ∷ text) =
    when eqb b newline then answer_to mode long line ++ answers_after mode false [] text
    else answers_after mode long (line ++ b ∷ []) text

-- the answers to the lines that end in a text
abbrev pub answers_to : Mode → Bool → List ℕ → List ℕ
answers_to mode long text = answers_after mode long [] text

-- the most bytes of an answer and its newline
abbrev pub longest : ℕ
longest = 515

-- no line ends in a text: it has no newline
abbrev pub NoneLeft : List ℕ → Type 0
NoneLeft text = before newline text ≡ length text

-- the answer to a line and its newline are put; they are no longer than that
pub record AnswersLine (mode : Mode) (long : Bool) (line before₀ : List ℕ) (at : ℕ) (after : List ℕ) (r : ℕ) : Type 0 where
  pub put : Put before₀ at (answer_to mode long line) after r
  pub short : length (answer_to mode long line) ≤ longest

-- lines from the front of a text on are answered, from the front of a buffer on, and the next one begins at r.from
pub record AnswersLines (mode : Mode) (long : Bool) (text before₀ after : List ℕ) (r : Done) : Type 0 where
  -- the answers that were put, and those to the rest, are the answers to the text
  pub done : List ℕ
  pub is : done ++ answers_to mode r.long (drop r.from text) ≡ answers_to mode long text
  -- they are in the buffer whole, and r.at is where they end
  pub put : Put before₀ 0 done after r.at
  pub whole : r.at ≡ length done
  pub within : r.at ≤ length before₀
  pub from : r.from ≤ length text
  -- in a buffer that has room for an answer, none is put only where no line ends in the text
  pub some : longest ≤ length before₀ → r.from ≡ 0 → NoneLeft text

-- a line of which the beginning was left off, a line, and one that does not end in the text
pub worked : answers_to Parts true (utf8 "MM\nDD\t5\nDD") ≡ utf8 "1 - 0 0\n0 0 1 5 0 0 0 0 0 none 4\n"
unfolding answers_after too_long_answer line_computes parts_answer moment_text
worked = refl
