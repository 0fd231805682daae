-- `calendar_julian::pg_date2j` begins the year in March, as the definition does.
use Rattle.std.proofs.Common.{◌≡◌, ◌∙◌, ℤ, lit<, refl}
use Rattle.calendar_julian.specs.ToDay.{from_march, date2j}
use Rattle.calendar_julian.proofs.Wrapping.{of, result, lit, add, value}
use Rattle.calendar_julian.proofs.pg_date2j.Goals as goal

same : {y y' m m' d d' : ℤ} → y ≡ y' → m ≡ m' → d ≡ d' → from_march y m d ≡ from_march y' m' d'
same e f g = rw (e, f, g)

pub returns-then-month-gt2 : goal.returns-then-month-gt2
unfolding date2j
returns-then-month-gt2 c =
    let year = of c.ranges.year refl in
    let month = of c.ranges.month refl in
    let after_february = rw (value month) at c.if-month-gt2.true in
    value (result c.from_march.type_inv c.from_march.ensures)
    ∙ same (value (add year (lit 4800 (lit< tt)))) (value (add month (lit 1 (lit< tt)))) (value (of c.ranges.day refl))
    ∙ rw after_february

pub returns-else-month-gt2 : goal.returns-else-month-gt2
unfolding date2j
returns-else-month-gt2 c =
    let year = of c.ranges.year refl in
    let month = of c.ranges.month refl in
    let to_february = rw (value month) at c.if-month-gt2.false in
    value (result c.from_march-else-month-gt2.type_inv c.from_march-else-month-gt2.ensures)
    ∙ same (value (add year (lit 4799 (lit< tt)))) (value (add month (lit 13 (lit< tt)))) (value (of c.ranges.day refl))
    ∙ rw to_february
