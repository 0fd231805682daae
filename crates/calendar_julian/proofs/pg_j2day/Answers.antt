-- `calendar_julian::pg_j2day` is the remainder by seven, as the definition takes it.
use Rattle.std.proofs.Common.{◌∙◌, ℤ, pos, lit<, refl, ap}
use Rattle.std.specs.Int.{int_rem_euclid}
use Rattle.calendar_julian.specs.Week.{j2day}
use Rattle.calendar_julian.proofs.Sevens.{mod7_is}
use Rattle.calendar_julian.proofs.Wrapping.{of, result, lit, add, value}
use Rattle.calendar_julian.proofs.pg_j2day.Goals as goal

pub returns : goal.returns
unfolding j2day
returns c =
    let next_day = add (of c.ranges.date refl) (lit 1 (lit< tt)) in
    value (result c.rem_euclid.type_inv c.rem_euclid.ensures.value)
    ∙ ap (λ (day : ℤ). int_rem_euclid day (pos 7)) (value next_day)
    ∙ mod7_is _
