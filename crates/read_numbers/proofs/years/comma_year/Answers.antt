-- `read_numbers::years::comma_year`: what was scanned ends within the text.
use Rattle.std.proofs.Common.{◌≡◌, ◌∙◌, Some, None, arith, sym}
use Rattle.std.proofs.lemmas.Result.{err_from_is_err_and}
use borrow.Author.Rules.{rules}
use mir.Facts.{to_z-of_z}
use mir.Syntax.{w32}
use mir.Val.{SFits}
use lib.ListN.{drop, length-drop}
use Rattle.read_numbers.proofs.CommaYears.{all_from, ends, found_year}
use Rattle.read_numbers.specs.Year.{scanned}
use Rattle.read_numbers.proofs.years.comma_year.Goals as goal

-- no two numbers
pub returns-in_err-r : goal.returns-in_err-r
returns-in_err-r c =
    let p = err_from_is_err_and c.from_residual.result c.from_residual.ensures.1 in
    let none : None ≡ scanned (drop c.args.at c.args.s.now)
    = rw (all_from c.args.s.now c.args.at) at (sym c.in_err-r.ensures.ok_part ∙ c.scan_yyyy.ensures) in
    found_year c.args.s.now c.args.at c.args.pattern c.requires _ None none
    (let why = rw c.in_err-r.ensures.ok_part at c.in_err-r.ensures.value in cc (p.1, p.2, why))

-- the place after them
pub overflow_add-at : goal.overflow_add-at
overflow_add-at c =
    let both : Some c.in_ok-r.r ≡ scanned (drop c.args.at c.args.s.now)
    = rw (all_from c.args.s.now c.args.at) at (sym c.in_ok-r.ensures.ok_part ∙ c.scan_yyyy.ensures) in
    let within = rw (← both) at (ends (drop c.args.at c.args.s.now)) in
    omega (arith, within.1, length-drop c.args.at c.args.s.now)

pub returns : goal.returns
returns c =
    let both : Some c.in_ok-r.r ≡ scanned (drop c.args.at c.args.s.now)
    = rw (all_from c.args.s.now c.args.at) at (sym c.in_ok-r.ensures.ok_part ∙ c.scan_yyyy.ensures) in
    found_year c.args.s.now c.args.at c.args.pattern c.requires _ _ both
    (let thousands_fit : SFits w32 c.in_ok-r.r.thousands = search rules in
    let years_fit : SFits w32 c.in_ok-r.r.years = search rules in
    simp (to_z-of_z thousands_fit, to_z-of_z years_fit) at c.joined.ensures)
