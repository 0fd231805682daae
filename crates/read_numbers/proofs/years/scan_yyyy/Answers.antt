-- `read_numbers::years::scan_yyyy`: the ways to find no two numbers, and the two numbers, are the definition's.
use Rattle.std.proofs.Common.{◌∙◌, ◌+◌, arith, rules, sym}
use mir.Facts.{to_z-of_z}
use mir.Syntax.{w32, w64}
use mir.Val.{SFits}
use Rattle.base_chars.specs.Class.{is_space}
use Rattle.base_strtol.proofs.Leading.{leading_place}
use Rattle.read_numbers.proofs.CommaYears.{no_first, no_comma, no_second, both_read, comma_within}
use Rattle.read_numbers.proofs.years.scan_yyyy.Goals as goal
use Rattle.read_numbers.proofs.years.scan_yyyy.Goals.{then-a-eq0-via-then-a-eq0, then-a-eq0-via-else-a-eq0+then-byte_at-ne44}

-- no first number, or no comma after it
pub returns-then-a-eq0 : goal.returns-then-a-eq0
returns-then-a-eq0 c =
    elim c.then-a-eq0.branch [
      | then-a-eq0-via-then-a-eq0 w ↦ no_first _ _ c.c_strtol-a.ensures w.if-a-eq0.true
      | then-a-eq0-via-else-a-eq0+then-byte_at-ne44 w ↦ no_comma _ _ c.c_strtol-a.ensures w.if-a-eq0.false (λ e. w.if-byte_at-ne44.true (w.byte_at.ensures ∙ e))
    ]

-- a comma is within the text, and so are the spaces after it
pub within_three-b-requires : goal.within_three-b-requires
within_three-b-requires c =
    let comma = comma_within _ _ c.c_strtol-a.ensures (sym c.byte_at.ensures ∙ c.if-byte_at-ne44.false) in
    omega (arith, comma, c.past_spaces-from.ensures, leading_place is_space c.args.t.now (c.c_strtol-a.result.end + 1))

-- no second number
pub returns-then-b-from : goal.returns-then-b-from
returns-then-b-from c =
    no_second _ _ c.c_strtol-a.ensures c.if-a-eq0.false (sym c.byte_at.ensures ∙ c.if-byte_at-ne44.false) _ c.past_spaces-from.ensures _ c.within_three-b.ensures
    c.if-b-from.true

-- both numbers
pub returns : goal.returns
returns c =
    let first_fits : SFits w64 c.c_strtol-a.result.value = search rules in
    let second_fits : SFits w64 c.within_three-b.result.value = search rules in
    let thousands_fit : SFits w32 c.wrapping_cut.result = search rules in
    let years_fit : SFits w32 c.wrapping_cut-2.result = search rules in
    both_read _ _ c.c_strtol-a.ensures c.if-a-eq0.false (sym c.byte_at.ensures ∙ c.if-byte_at-ne44.false) _ c.past_spaces-from.ensures _ c.within_three-b.ensures
    c.if-b-from.false _ _
    (to_z-of_z thousands_fit ∙ simp (to_z-of_z first_fits) at c.wrapping_cut.ensures)
    (to_z-of_z years_fit ∙ simp (to_z-of_z second_fits) at c.wrapping_cut-2.ensures)
