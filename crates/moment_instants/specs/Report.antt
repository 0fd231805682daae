-- The number, pattern and figures by which users know why there is no instant or no day.
use Rattle.std.specs.Prelude.{◌≡◌, refl}
use Rattle.base_refusals.specs.Report.{alone, report_of}
use Rattle.base_refusals.specs.declared.Refusal.TheVariants.{Short}
use Rattle.base_refusals.specs.declared.Report.{Report}
use Rattle.moment_parts.specs.Report.{unread_report}
use Rattle.moment_parts.specs.declared.Unread.TheVariants.{By}
use Rattle.moment_instants.specs.declared.epoch.Undated.{Undated}
use Rattle.moment_instants.specs.declared.epoch.Undated.TheVariants.{Unread, InstantRange, DateRange}

unfoldable pub undated_report : Undated → Report
undated_report (Unread why) = unread_report why
undated_report InstantRange = alone 17
undated_report DateRange = alone 18

-- what was not read keeps its number
pub worked : ((undated_report (Unread (By (Short 9 2 1)))).number ≡ 5) × ((undated_report DateRange).number ≡ 18)
unfolding undated_report unread_report report_of
worked = (refl, refl)
