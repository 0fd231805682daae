-- The text of a moment in parts, and how long answers are: no item but a text is longer than 20 bytes. Assumes nothing.
-- `moment_is`: the text of a moment is 0, its date, its time, its precision, its offset and its marks.
-- `int_length`: a number of 32 bits has at most 20 bytes in decimal.
-- `value_short`, `moment_short`, `report_short`: so an instant or a day, a moment and a report have at most 514.
use mathlib.Core.Path.{◌≡◌, ◌∙◌, refl, ap}
use mathlib.Core.List.{List, [], ◌∷◌, ◌++◌, append_assoc, append-nil}
use Prim.Native.Nat.{ℕ, ◌+◌, ◌≤◌}
use native.Mathlib.Omega.{arith}
use borrow.Author.Tests.{ltb-true}
use lib.Dec.{ltb}
use lib.IntN.{ℤ, pos}
use lib.ListN.{length, length-append}
use mir.Facts.{sfits_widen}
use mir.Syntax.{w8, w32, w64}
use mir.Val.{SFits, Fits}
use Rattle.base_notation.proofs.Cases.{by_if}
use Rattle.base_refusals.specs.Report.{no_pattern}
use Rattle.base_refusals.specs.declared.Report.{Report}
use Rattle.template_patterns.specs.Patterns.{name_of}
use Rattle.template_patterns.proofs.Names.{name_length}
use Rattle.moment_parts.specs.declared.Parts.{Parts}
use Rattle.moment_instants.proofs.Seconds.{Ranged}
use Rattle.line_buffers.specs.Decimal.{decimal}
use Rattle.line_buffers.proofs.Magnitude.{decimal-length}
use Rattle.moment_parts.specs.Patterns.{pattern_name}
use Rattle.line_answers.specs.Items.{item, numbers, report_text}
use Rattle.line_answers.specs.Answers.{accepted, moment_text, offset_text}

numbers-append : (xs ys : List ℤ) → numbers (xs ++ ys) ≡ numbers xs ++ numbers ys
numbers-append [] ys = refl
numbers-append (x ∷ xs) ys = ap (λ (l : List ℕ). item (decimal x) ++ l) (numbers-append xs ys) ∙ rw append_assoc

abbrev pub date_numbers : Parts → List ℤ
date_numbers p = p.year ∷ p.month ∷ p.day ∷ []

abbrev pub time_numbers : Parts → List ℤ
time_numbers p = p.hour ∷ p.minute ∷ p.second ∷ p.micros ∷ []

abbrev pub last_items : Parts → List ℕ
last_items p = item (offset_text p.offset) ++ item (decimal (pos p.marks))

pub moment_is : (p : Parts) → moment_text p ≡ accepted (numbers (date_numbers p) ++ (numbers (time_numbers p) ++ (item (decimal p.precision) ++ last_items p)))
unfolding moment_text
moment_is p =
    let date = date_numbers p in
    let time = time_numbers p in
    let last = last_items p in
    ap (λ (l : List ℕ). accepted (l ++ last)) (numbers-append date (time ++ p.precision ∷ []) ∙ ap (λ (l : List ℕ). numbers date ++ l) (numbers-append time (p.precision ∷ [])))
    ∙ ap (λ (l : List ℕ). accepted l) (append_assoc (numbers date) _ last ∙ ap (λ (l : List ℕ). numbers date ++ l) (append_assoc (numbers time) _ last))
    ∙ ap (λ (l : List ℕ). accepted (numbers date ++ (numbers time ++ (item l ++ last)))) (append-nil (decimal p.precision))

-- a number of 32 bits
pub int_length : (z : ℤ) → SFits w32 z → length (decimal z) ≤ 20
int_length z f = decimal-length z (sfits_widen {w = w32} {w' = w64} tt f)

pub value_short : (z : ℤ) → SFits w64 z → length (accepted (item (decimal z))) ≤ 514
value_short z f = omega (arith, decimal-length z f)

pub moment_short : (p : Parts) → Ranged p → Fits w8 p.marks → length (offset_text p.offset) ≤ 20 → length (moment_text p) ≤ 514
unfolding moment_text
moment_short p f m o =
    let year = int_length p.year f.year in
    let month = int_length p.month f.month in
    let day = int_length p.day f.day in
    let hour = int_length p.hour f.hour in
    let minute = int_length p.minute f.minute in
    let second = int_length p.second f.second in
    let micros = int_length p.micros f.micros in
    let precision = int_length p.precision f.precision in
    let marks = decimal-length (pos p.marks) (omega arith) in
    simp length-append (omega arith)

-- a pattern's name
pattern_length : (p : ℕ) → length (pattern_name p) ≤ 20
unfolding pattern_name
pattern_length p =
    by_if (λ (t : List ℕ). length t ≤ 20) (ltb p no_pattern) (name_of p) _ (λ e. omega (arith, (name_length p (ltb-true p no_pattern e)).1)) (λ e. omega arith)

pub report_short : (r : Report) → Fits w8 r.number → SFits w64 r.first → SFits w64 r.second → length (report_text r) ≤ 514
unfolding report_text
report_short r n f s =
    let number = decimal-length (pos r.number) (omega arith) in
    let pattern = pattern_length r.pattern in
    let first = decimal-length r.first f in
    let second = decimal-length r.second s in
    simp length-append (omega arith)
