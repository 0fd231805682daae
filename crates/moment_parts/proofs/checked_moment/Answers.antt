-- `moment_parts::checked_moment` meets its contract: a refused offset is the last that is refused. Assumes nothing.
use Rattle.std.proofs.Common.{◌≡◌, ◌∙◌, sym, rules}
use mir.Facts.{to_z-of_z}
use Rattle.base_wrapping.proofs.Fits.{returned}
use Rattle.std.specs.Prelude.{true, false, ◌&&◌, Err}
use Rattle.std.proofs.lemmas.Result.{err_from_is_err_and}
use Rattle.moment_sums.proofs.Fits.{back}
use Rattle.moment_date.specs.Dates.{date_in_range, no_such_day}
use Rattle.moment_time.specs.Time.{checked_offset, minute_of, second_of, time_in_range}
use Rattle.moment_parts.specs.Parts.{checked_moment}
use Rattle.moment_parts.proofs.checked_moment.Goals as goal

pub returns-in_err-offset : goal.returns-in_err-offset
unfolding checked_moment
returns-in_err-offset c =
    let f = c.args.f in
    let r = c.args.r in
    let date : date_in_range r ≡ true = sym c.date_in_range.ensures ∙ c.if-not-date_in_range.false in
    let never : (c.args.strict && no_such_day r.set r.month r.day) ≡ false =
    sym (simp (back r.month (search rules), back r.day (search rules)) at c.no_such_day.ensures) ∙ c.if-no_such_day.false in
    let time : time_in_range c.args.hour (minute_of f) (second_of f) c.args.micros ≡ true =
    sym (simp (
      returned c.second_of-second.type_inv c.second_of-second.ensures,
      returned c.minute_of-minute.type_inv c.minute_of-minute.ensures,
      to_z-of_z c.ranges.hour,
      to_z-of_z c.ranges.micros,
    ) at c.time_in_range.ensures)
    ∙ c.if-not-time_in_range.false in
    let offset : checked_offset f ≡ Err c.in_err-offset.field-0.0 = sym c.offset_of.ensures ∙ c.in_err-offset.was in
    let refused = err_from_is_err_and c.from_residual.result c.from_residual.ensures.1 in
    simp (date, never, time, offset, refused.1, refused.2)
