-- The number, pattern and figures by which users know why there are no parts.
use Rattle.std.specs.Prelude.{◌≡◌, refl}
use Rattle.base_refusals.specs.Report.{alone, report_of}
use Rattle.base_refusals.specs.declared.Refusal.TheVariants.{Short}
use Rattle.base_refusals.specs.declared.Report.{Report}
use Rattle.moment_parts.specs.declared.Unread.{Unread}
use Rattle.moment_parts.specs.declared.Unread.TheVariants.{By, NoSuchDay}

unfoldable pub unread_report : Unread → Report
unread_report (By refusal) = report_of refusal
unread_report NoSuchDay = alone 25

-- a refusal keeps its number; a day that its month never has is 25
pub worked : ((unread_report (By (Short 9 2 1))).number ≡ 5) × ((unread_report NoSuchDay).number ≡ 25)
unfolding unread_report report_of
worked = (refl, refl)
