-- The number, pattern and figure by which users know why nothing is written.
use Rattle.std.specs.Prelude.{◌≡◌, refl, pos}
use Rattle.base_refusals.specs.Report.{alone, at, no_pattern, report}
use Rattle.base_refusals.specs.declared.Report.{Report}
use Rattle.write_text.specs.declared.Unwritten.{Unwritten}
use Rattle.write_text.specs.declared.Unwritten.TheVariants.{TooLong, NotUtf8, NotWritten, NoMoment, NoRoom}

unfoldable pub unwritten_report : Unwritten → Report
unwritten_report TooLong = alone 1
unwritten_report NotUtf8 = alone 2
unwritten_report (NotWritten p) = at p 19
unwritten_report NoMoment = alone 20
unwritten_report (NoRoom needed) = report 21 no_pattern (pos needed) (pos 0)

-- a text of 10 bytes, and a shorter buffer
pub worked : unwritten_report (NoRoom 10) ≡ report 21 112 (pos 10) (pos 0)
unfolding unwritten_report
worked = refl
