-- `line_answers::items::put_moment`: 0, the date, the time, the precision, the offset and the marks are put one after
-- the other.
use Rattle.std.proofs.Common.{rules}
use mir.Facts.{to_z-of_z}
use mir.Syntax.{w8, w64}
use mir.Val.{Fits, SFits}
use Rattle.moment_instants.proofs.Seconds.{Ranged}
use Rattle.line_buffers.proofs.Puts.{put_then}
use Rattle.line_answers.proofs.Lengths.{moment_is, moment_short}
use Rattle.line_answers.proofs.items.put_moment.Goals as goal

pub returns : goal.returns
returns c =
    let p = c.args.p in
    let fits : Ranged p = search rules in
    let marks_fit : Fits w8 p.marks = search rules in
    let date = simp (to_z-of_z fits.year, to_z-of_z fits.month, to_z-of_z fits.day) at c.put_date-date.ensures in
    let time = simp (to_z-of_z fits.hour, to_z-of_z fits.minute, to_z-of_z fits.second, to_z-of_z fits.micros) at c.put_time-time.ensures in
    let precision = simp (to_z-of_z fits.precision) at c.put_int-precision.ensures in
    let offset = c.put_offset-offset.ensures in
    let from_fits : SFits w64 c.from.result = search rules in
    let marks = rw (to_z-of_z from_fits, c.from.ensures) at c.put_number.ensures in
    record {
      put =
          rw (moment_is p)
          (put_then _ _ c.put_accepted-number.ensures (put_then _ _ date (put_then _ _ time (put_then _ _ precision (put_then _ _ offset.0 marks)))));
      short = moment_short _ fits marks_fit offset.1;
    }
