-- The modes by their names.
use Rattle.std.specs.Prelude.{◌≡◌, Option, Some, List, ℕ}
use Rattle.base_notation.specs.Text.{utf8}
use Rattle.line_answers.specs.declared.Mode.{Mode}
use Rattle.line_answers.specs.declared.Mode.TheVariants.{Parts, Instant, Date, Write}

-- the name of each mode
abbrev pub mode_name : Mode → List ℕ
mode_name Parts = utf8 "parts"
mode_name Instant = utf8 "instant"
mode_name Date = utf8 "date"
mode_name Write = utf8 "write"

-- r is the mode that has the name, and none where no mode has it
pub record Chosen (name : List ℕ) (r : Option Mode) : Type 0 where
  pub named : (m : Mode) → name ≡ mode_name m → r ≡ Some m
  pub own : (m : Mode) → r ≡ Some m → name ≡ mode_name m
