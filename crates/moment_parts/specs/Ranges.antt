-- What every answer keeps to: the ranges of a moment's parts, what its marks say, and the numbers of refusals. All of
-- it speaks of the answer alone, and of the strict switch.
use Rattle.std.specs.Prelude.{◌≡◌, refl, Bool, true, false, ◌⊎◌, ℕ, ◌≤◌, ◌<◌, ℤ, pos, negsuc, nat_abs, Err, None, Ok, Option, Result, Some}
use Rattle.std.proofs.Common.{ap, ⊎_elim, arith}
use Rattle.std.proofs.lemmas.Bool.{false≢true}
use Rattle.calendar_gregorian.specs.Civil.{length_of}
use Rattle.calendar_gregorian.specs.Gregorian.{is_leap}
use Rattle.moment_date.specs.Dates.{year_bit, month_bit, day_bit, all_bits, is_set}
pub use Rattle.moment_sums.specs.Within.{Within}
use Rattle.moment_parts.specs.Report.{unread_report}
use Rattle.moment_parts.specs.declared.Parts.{Parts}
use Rattle.moment_parts.specs.declared.Unread.{Unread}

-- an offset, if there is one, lies between 15:59 west and 15:59 east
abbrev pub OffsetWithin : Option ℤ → Type 0
OffsetWithin None = Unit {0}
OffsetWithin (Some z) = nat_abs z ≤ 57540

-- the day is one that its month has in that year
abbrev pub HasDay : Parts → Type 0
HasDay p = Within 1 (length_of (is_leap (nat_abs p.year)) p.month) p.day

-- the day is one that its month has in a leap year, and so can have
abbrev pub CanHaveDay : Parts → Type 0
CanHaveDay p = Within 1 (length_of true p.month) p.day

-- the parts of a moment are in range. The marks say which of year, month and day are set. What has no mark is the year
-- 0, January, the first of the month; a year other than 0 has its mark. With all three marks the month has the day, and
-- so it does in every year but 0. Under the strict switch the month can have the day, whatever is marked
pub record InRange (strict : Bool) (p : Parts) : Type 0 where
  pub hour : Within 0 23 p.hour
  pub minute : Within 0 59 p.minute
  pub second : Within 0 59 p.second
  pub micros : Within 0 999999 p.micros
  pub precision : Within 0 6 p.precision
  pub month : Within 1 12 p.month
  pub day : Within 1 31 p.day
  pub offset : OffsetWithin p.offset
  pub marks : p.marks < 8
  pub no_year : is_set year_bit p.marks ≡ false → p.year ≡ pos 0
  pub no_month : is_set month_bit p.marks ≡ false → p.month ≡ pos 1
  pub no_day : is_set day_bit p.marks ≡ false → p.day ≡ pos 1
  pub year : (p.year ≡ pos 0 → ⊥) → is_set year_bit p.marks ≡ true
  pub in_month : p.marks ≡ all_bits → HasDay p
  pub dated : (p.year ≡ pos 0 → ⊥) → HasDay p
  pub possible : strict ≡ true → CanHaveDay p

-- the number of a refusal is from 1 to 16, or it is 25, and that under the strict switch alone
abbrev pub ReadNumber : Bool → ℕ → Type 0
ReadNumber strict n = ((1 ≤ n) × (n ≤ 16)) ⊎ ((n ≡ 25) × (strict ≡ true))

-- an answer is a moment in range, or a refusal by such a number, with a pattern and two figures
abbrev pub Answered : Bool → Result Parts Unread → Type 0
Answered strict (Ok p) = InRange strict p
Answered strict (Err why) = ReadNumber strict (unread_report why).number

-- 15:59 east and 15:59 west
pub ends : OffsetWithin (Some (pos 57540)) × OffsetWithin (Some (negsuc 57539))
ends = (omega arith, omega arith)

-- midnight of a day, by its year, month, day and marks
abbrev pub midnight : ℕ → ℕ → ℕ → ℕ → Parts
midnight y m d marks =
    record { year = pos y; month = pos m; day = pos d; hour = pos 0; minute = pos 0; second = pos 0; micros = pos 0; precision = pos 0; offset = None; marks = marks }

-- February can have a 29th, and has none in 2023
pub some_year : CanHaveDay (midnight 2023 2 29 7) × (HasDay (midnight 2023 2 29 7) → ⊥)
some_year = (
  record { at = 29; is = refl; from = omega arith; to = omega arith },
  λ h. let same : ◌≡◌ {A = ℕ} 29 h.at = ap nat_abs h.is in omega (arith, h.to),
)

-- without the switch 25 is no number of a refusal, and 17 never is
pub numbers : (ReadNumber false 25 → ⊥) × (ReadNumber true 17 → ⊥)
numbers = (
  ⊎_elim (λ h. omega (arith, h.1)) (λ h. false≢true h.1),
  ⊎_elim (λ h. omega (arith, h.1)) (λ h. omega (arith, h.0)),
)
