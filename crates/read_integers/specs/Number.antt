-- A number of the input from a place on (from_char_parse_int_len of formatting.c).
use Rattle.std.specs.Prelude.{◌≡◌, refl, Bool, true, false, not, ◌&&◌, ◌||◌, List, ℕ, ◌+◌, ◌-◌, ◌^◌, ◌<◌, ◌≤◌, eqb, ltb, ℤ, pos, length, take, drop, Err, Ok, Result}
use Rattle.std.specs.Int.Signed.{mag}
use Rattle.base_strtol.specs.Strtol.{strtol_computes, strtol}
use Rattle.base_notation.specs.Choice.{when◌then◌else◌}
use Rattle.base_notation.specs.Text.{utf8}
use Rattle.base_refusals.specs.declared.Refusal.{Refusal}
use Rattle.base_refusals.specs.declared.Refusal.TheVariants.{Short, Narrow, NotInteger, OutOfRange}
use Rattle.base_strtol.specs.Runs.{spaces}
use Rattle.base_strtol.specs.declared.Strtol.{Strtol}
use Rattle.read_integers.specs.declared.Number.{Number}

-- a number and the place after it
abbrev pub up_to : ℤ → ℕ → Number
up_to value next = record { value = value; next = next }

-- the number has 32 bits
abbrev pub fits32 : ℤ → Bool
fits32 z = ltb (mag z) (2 ^ 31)

-- what strtol found, for a field that began at a place: its end there says that nothing was read
unfoldable pub checked : ℕ → ℕ → Strtol → Result Number Refusal
checked pattern start r =
    when eqb r.end start then Err (NotInteger pattern)
    else when r.overflow || not (fits32 r.value) then Err (OutOfRange pattern)
    else Ok (up_to r.value r.end)

-- a number of fixed width: spaces, then as many bytes; if digits begin there, they fill the width
unfoldable pub fixed_at : List ℕ → ℕ → ℕ → ℕ → Result Number Refusal
fixed_at s at width pattern =
    let from = at + spaces (drop at s) in
    let left = length s - from in
    let r = strtol (take width (drop from s)) 0 in
    when ltb left width then Err (Short pattern width left)
    else when ltb 0 r.end && ltb r.end width then Err (Narrow pattern width r.end)
    else checked pattern at (record { value = r.value; end = from + r.end; overflow = r.overflow })

-- a number of any width: all digits that are there
abbrev pub free_at : List ℕ → ℕ → ℕ → Result Number Refusal
free_at s at pattern = checked pattern at (strtol s at)

unfoldable pub number_at : List ℕ → ℕ → ℕ → ℕ → Bool → Result Number Refusal
number_at s at width pattern free = when free then free_at s at pattern else fixed_at s at width pattern

-- what was read ends after its place and within the input, and has 32 bits
abbrev pub Inside : List ℕ → ℕ → Result Number Refusal → Type 0
Inside s at (Ok r) = (at < r.next) × (r.next ≤ length s) × (fits32 r.value ≡ true)
Inside s at (Err why) = Unit {0}

-- r is the number n, which is read at a place
pub record Found (s : List ℕ) (at : ℕ) (n r : Result Number Refusal) : Type 0 where
  pub is : r ≡ n
  pub inside : Inside s at r

-- unfolds all that a number of the input is computed by, for worked examples
unfoldable pub integer_computes : ℕ
unfolding checked fixed_at number_at strtol_computes
integer_computes = 0

-- the day 05 of 0512, and all four digits where the width is free
pub widths : (number_at (utf8 "0512") 0 2 9 false ≡ Ok (up_to (pos 5) 2)) × (number_at (utf8 "0512") 0 2 9 true ≡ Ok (up_to (pos 512) 4))
unfolding integer_computes
widths = (refl, refl)

-- one byte left of two; one digit of two; no digit; a space where a number is missing, which is 0; past 32 bits
pub refusals
    : (number_at (utf8 " 5") 0 2 9 false ≡ Err (Short 9 2 1))
    × (number_at (utf8 "5x") 0 2 9 false ≡ Err (Narrow 9 2 1))
    × (number_at (utf8 "x5") 0 2 9 false ≡ Err (NotInteger 9))
    × (number_at (utf8 " xyz") 0 2 9 false ≡ Ok (up_to (pos 0) 1))
    × (number_at (utf8 "2147483648") 0 4 54 true ≡ Err (OutOfRange 54))
unfolding integer_computes
refusals = (refl, refl, refl, refl, refl)
