-- `moment_date::date::dated_of` meets its contract: each step goes on where the definition does. Assumes nothing.
use Rattle.std.proofs.Common.{◌≡◌, ◌∙◌, sym, rules}
use Rattle.std.specs.Prelude.{Ok}
use Rattle.moment_year.specs.Year.{year_of}
use Rattle.moment_date.specs.Dates.{begun, dated_of, with_julian, with_week, with_month_week}
use Rattle.moment_sums.proofs.Fits.{back}
use Rattle.moment_date.proofs.date.dated_of.Goals as goal

pub returns : goal.returns
unfolding dated_of
returns c =
    let f = c.args.f in
    let of_year : year_of f ≡ Ok c.in_ok-year.year = sym c.year_of.ensures ∙ c.in_ok-year.was in
    let of_week : with_week f (with_julian f (begun f c.in_ok-year.year)) ≡ Ok c.in_ok-of_week.of_week =
    sym (simp (c.with_julian.ensures, c.begun.ensures, back c.in_ok-year.year (search rules)) at c.with_week.ensures)
    ∙ c.in_ok-of_week.was in
    let of_month_week : with_month_week f c.in_ok-of_week.of_week ≡ Ok c.in_ok-of_month_week.of_month_week =
    sym c.with_month_week.ensures ∙ c.in_ok-of_month_week.was in
    simp (of_year, of_week, of_month_week, c.with_day_of_year.ensures, c.with_month.ensures, c.with_day.ensures)
