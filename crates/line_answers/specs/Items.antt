-- The items of an answer: numbers in decimal, the name of a pattern, and a report of four items.
use Rattle.std.specs.Prelude.{◌≡◌, refl, List, [], ◌∷◌, ◌++◌, ℕ, ℤ, pos, negsuc}
use Prim.Native.Char.{code}
use Rattle.base_notation.specs.Text.{utf8}
use Rattle.base_refusals.specs.Report.{no_pattern, report}
use Rattle.base_refusals.specs.declared.Report.{Report}
use Rattle.moment_parts.specs.Patterns.{pattern_name}
use Rattle.line_buffers.specs.Decimal.{decimal, digits, significant}

-- an item with the space before it
abbrev pub item : List ℕ → List ℕ
item text = code " " ∷ text

-- numbers, each with the space before it
abbrev pub numbers : List ℤ → List ℕ
numbers [] = []
numbers (z ∷ zs) = item (decimal z) ++ numbers zs

-- a refusal: number, pattern, two figures
unfoldable pub report_text : Report → List ℕ
report_text r = decimal (pos r.number) ++ item (pattern_name r.pattern) ++ numbers (r.first ∷ r.second ∷ [])

-- DD (number 9 of the table) asks for 2 bytes, and 1 is left; an hour of -3, without a pattern
pub worked : (report_text (report 5 9 (pos 2) (pos 1)) ≡ utf8 "5 DD 2 1") × (report_text (report 13 no_pattern (negsuc 2) (pos 0)) ≡ utf8 "13 - -3 0")
unfolding report_text pattern_name digits significant
worked = (refl, refl)
