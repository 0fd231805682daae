-- `line_answers::items::put_date` meets its contract: the three numbers are put one after the other. Assumes nothing.
use mathlib.Core.List.{append-nil}
use borrow.Author.Rules.{rules}
use Rattle.line_buffers.proofs.Puts.{put_then}
use Rattle.line_answers.proofs.Same.{put_back}
use Rattle.line_answers.proofs.items.put_date.Statement.{statement}
use Rattle.line_answers.proofs.items.put_date.Tie as tie

-- year, month and day
returns : tie.Need-returns
returns c =
    let after_day = c.before.before in
    let after_month = after_day.before.before.before.before in
    let after_year = after_month.before.before.before.before in
    let fits = after_year.ranges in
    let year = put_back fits.year after_year.put_int-after_year.ensures in
    let month = put_back fits.month after_month.put_int-after_month.ensures in
    let day = put_back fits.day after_day.put_int.ensures in
    rw append-nil (put_then _ _ year (put_then _ _ month day))

pub put_date_spec : {M : Type 1} → statement M
put_date_spec =
    tie.close
    (tie.spec (λ c κs. search rules) (λ c κs. search rules) (λ c κs. search rules) (λ c. search rules) returns)
