-- Years: a year with a comma (Y,YYY), read as sscanf's "%d,%03d", and years of fewer than four digits.
use Rattle.std.specs.Prelude.{◌≡◌, refl, not, ◌&&◌, ◌||◌, List, ℕ, ◌+◌, eqb, ℤ, pos, ◌+ℤ◌, ◌*ℤ◌, take, drop, Err, Ok, Result, Some, None, Option}
use Prim.Native.Char.{code}
use Rattle.std.specs.Int.Signed.{lt_z}
use Rattle.base_strtol.specs.Strtol.{strtol_computes, strtol}
use Rattle.base_notation.specs.Choice.{when◌then◌else◌}
use Rattle.base_notation.specs.Text.{byte_at, utf8}
use Rattle.base_wrapping.specs.Wrap.{wrap32}
use Rattle.base_refusals.specs.declared.Refusal.TheVariants.{NotTwoNumbers, YearOutOfRange}
use Rattle.base_strtol.specs.Runs.{spaces}
use Rattle.read_integers.specs.declared.Number.{Number}
use Rattle.read_numbers.specs.declared.years.Scanned.{Scanned}
use Rattle.read_integers.specs.Number.{fits32, up_to}
use Rattle.base_refusals.specs.declared.Refusal.{Refusal}

-- thousands of years and years together, if both the thousands and the sum are numbers of 32 bits
unfoldable pub joined : ℕ → ℤ → ℤ → ℕ → Result Number Refusal
joined pattern thousands years next =
    let whole = thousands *ℤ pos 1000 in
    when fits32 whole && fits32 (years +ℤ whole) then Ok (up_to (years +ℤ whole) next)
    else Err (YearOutOfRange pattern)

-- a number, cut to 32 bits; a comma; spaces; and a number within three bytes
unfoldable pub scanned : List ℕ → Option Scanned
scanned t =
    let a = strtol t 0 in
    let from = a.end + 1 + spaces (drop (a.end + 1) t) in
    let b = strtol (take (from + 3) t) from in
    when eqb a.end 0 || not (eqb (byte_at t a.end) (code ",")) || eqb b.end from then None
    else Some (record { thousands = wrap32 a.value; years = wrap32 b.value; next = b.end })

abbrev pub scanned_year : ℕ → ℕ → Option Scanned → Result Number Refusal
scanned_year pattern at (Some r) = joined pattern r.thousands r.years (at + r.next)
scanned_year pattern at None = Err (NotTwoNumbers pattern)

unfoldable pub comma_year_at : List ℕ → ℕ → ℕ → Result Number Refusal
comma_year_at s at pattern = scanned_year pattern at (scanned (drop at s))

-- a year of two or three digits is put near 2020
unfoldable pub near2020 : ℤ → ℤ
near2020 y =
    when lt_z y (pos 70) then y +ℤ pos 2000
    else when lt_z y (pos 100) then y +ℤ pos 1900
    else when lt_z y (pos 520) then y +ℤ pos 2000
    else when lt_z y (pos 1000) then y +ℤ pos 1000
    else y

-- unfolds all that years are computed by, for worked examples
unfoldable pub years_compute : ℕ
unfolding comma_year_at scanned joined near2020 wrap32 strtol_computes
years_compute = 0

-- 2,024 is the year 2024, also with spaces after the comma; without a second number nothing is read
pub worked
    : (comma_year_at (utf8 "2,024.") 0 53 ≡ Ok (up_to (pos 2024) 5)) × (comma_year_at (utf8 "2, 024") 0 53 ≡ Ok (up_to (pos 2024) 6))
    × (comma_year_at (utf8 "2.024") 0 53 ≡ Err (NotTwoNumbers 53)) × (comma_year_at (utf8 "2147484,000") 0 53 ≡ Err (YearOutOfRange 53))
unfolding years_compute
worked = (refl, refl, refl, refl)

-- the first number is cut to 32 bits without a refusal: 4294967298 counts as 2
pub cut : comma_year_at (utf8 "4294967298,024") 0 53 ≡ Ok (up_to (pos 2024) 14)
unfolding years_compute
cut = refl

pub centuries : (near2020 (pos 69) ≡ pos 2069) × (near2020 (pos 70) ≡ pos 1970) × (near2020 (pos 519) ≡ pos 2519) × (near2020 (pos 520) ≡ pos 1520)
unfolding years_compute
centuries = (refl, refl, refl, refl)
