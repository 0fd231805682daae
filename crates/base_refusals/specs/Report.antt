-- The number, pattern and two figures by which users know each refusal.
use Rattle.std.specs.Prelude.{◌≡◌, refl, ℕ, ℤ, pos}
use Rattle.base_refusals.specs.declared.Refusal.{Refusal}
use Rattle.base_refusals.specs.declared.Refusal.TheVariants.{TooLong, NotUtf8, MixedDates, Conflict, Short, Narrow, NotInteger, OutOfRange, NoWord, NotTwoNumbers, YearOutOfRange, ZoneLetter, HourOfTwelve, NoYear, FieldOverflow, OffsetRange}
use Rattle.base_refusals.specs.declared.Report.{Report}

-- no pattern: one more than the last number of the table of patterns
abbrev pub no_pattern : ℕ
no_pattern = 112

-- a number, a pattern and two figures
abbrev pub report : ℕ → ℕ → ℤ → ℤ → Report
report number pattern first second = record { number = number; pattern = pattern; first = first; second = second }

-- a number alone
abbrev pub alone : ℕ → Report
alone number = report number no_pattern (pos 0) (pos 0)

-- a number with a pattern
abbrev pub at : ℕ → ℕ → Report
at pattern number = report number pattern (pos 0) (pos 0)

-- what each refusal reports
unfoldable pub report_of : Refusal → Report
report_of TooLong = alone 1
report_of NotUtf8 = alone 2
report_of (MixedDates p) = at p 3
report_of (Conflict p) = at p 4
report_of (Short p width left) = report 5 p (pos width) (pos left)
report_of (Narrow p width parsed) = report 6 p (pos width) (pos parsed)
report_of (NotInteger p) = at p 7
report_of (OutOfRange p) = at p 8
report_of (NoWord p) = at p 9
report_of (NotTwoNumbers p) = at p 10
report_of (YearOutOfRange p) = at p 11
report_of (ZoneLetter p) = at p 12
report_of (HourOfTwelve hour) = report 13 no_pattern hour (pos 0)
report_of NoYear = alone 14
report_of FieldOverflow = alone 15
report_of OffsetRange = alone 16

-- DD (number 9 of the table) asks for 2 bytes, and 1 is left
pub worked : report_of (Short 9 2 1) ≡ report 5 9 (pos 2) (pos 1)
unfolding report_of
worked = refl
