-- C's strtol in base 10, with a `long` of 64 bits, on the text from a place on.
use Rattle.std.specs.Prelude.{◌≡◌, refl, Bool, true, false, not, ◌&&◌, ◌||◌, List, [], ℕ, ◌+◌, ◌-◌, ◌^◌, ◌<◌, min, eqb, ltb, ℤ, pos, negsuc, neg_ℤ, length, drop, Option, Some, None}
use Prim.Native.Char.{code}
use Rattle.base_notation.specs.Choice.{when◌then◌else◌}
use Rattle.base_notation.specs.Text.{byte_at, utf8}
use Rattle.base_chars.specs.Class.{class_of, is_digit}
use Rattle.base_strtol.specs.Runs.{leading, spaces, digits, number, number_from}
use Rattle.base_strtol.specs.declared.Run.{Run}
use Rattle.base_strtol.specs.declared.Short.{Short}
use Rattle.base_strtol.specs.declared.Strtol.{Strtol}

-- the text after its spaces
abbrev pub trimmed : List ℕ → List ℕ
trimmed s = drop (spaces s) s

-- a minus sign is in front
abbrev pub minus : List ℕ → Bool
minus s = eqb (byte_at s 0) (code "-")

-- how many signs are read: one plus or minus sign, or none
abbrev pub signs : List ℕ → ℕ
signs s = when minus s || eqb (byte_at s 0) (code "+") then 1 else 0

-- the text after its spaces and a sign
abbrev pub unsigned : List ℕ → List ℕ
unsigned s = drop (signs (trimmed s)) (trimmed s)

-- how far from 0 a signed 64-bit number can be: 2 ^ 63 - 1, after a minus sign 2 ^ 63
abbrev pub limit : Bool → ℕ
limit neg = when neg then 2 ^ 63 else 2 ^ 63 - 1

-- a number with its sign
abbrev pub signed : Bool → ℕ → ℤ
signed neg n = when neg then neg_ℤ (pos n) else pos n

-- the digits in front of a text that begins at a place: their number, or the limit where it is beyond that;
-- the place after them; whether the number is beyond the limit
abbrev pub digits_read : ℕ → ℕ → List ℕ → Run
digits_read most at t = record { value = min (number t) most; end = at + digits t; over = ltb most (number t) }

-- a number, the place after it, and whether it was outside 64 bits
abbrev pub answer : ℤ → ℕ → Bool → Strtol
answer value end overflow = record { value = value; end = end; overflow = overflow }

-- what is read from a place on: spaces, a sign, digits. With no digits it is 0, and the place stays
unfoldable pub strtol : List ℕ → ℕ → Strtol
strtol s start =
    let t = drop start s in
    let neg = minus (trimmed t) in
    let run = digits_read (limit neg) (start + spaces t + signs (trimmed t)) (unsigned t) in
    when eqb (digits (unsigned t)) 0 then answer (pos 0) start false
    else answer (signed neg run.value) run.end run.over

-- a number of few digits, and the place after it
abbrev pub few : ℕ → ℕ → Short
few value end = record { value = value; end = end }

-- the digits right at a place, where their number is below 1,000,000,000 and there are any; otherwise none
unfoldable pub short_at : List ℕ → ℕ → Option Short
short_at s at =
    let t = drop at s in
    when ltb (number t) 1000000000 && ltb 0 (digits t) then Some (few (number t) (at + digits t)) else None

-- two digits are at a place, and then a byte that is no digit
abbrev pub Pair : List ℕ → ℕ → Type 0
Pair s at =
    (at + 1 + 1 < length s) × (is_digit (byte_at s at) ≡ true) × (is_digit (byte_at s (at + 1)) ≡ true) × (is_digit (byte_at s (at + 1 + 1)) ≡ false)

-- the same as a test
unfoldable pub is_pair : List ℕ → ℕ → Bool
is_pair s at =
    ltb (at + 2) (length s) && is_digit (byte_at s at) && is_digit (byte_at s (at + 1)) && not (is_digit (byte_at s (at + 2)))

-- the number of two digits at a place, where no third follows but another byte does; otherwise none
unfoldable pub pair_at : List ℕ → ℕ → Option Short
pair_at s at = when is_pair s at then short_at s at else None

-- unfolds all that a number is computed by, for worked examples
unfoldable pub strtol_computes : ℕ
unfolding strtol leading number_from class_of
strtol_computes = 0

-- spaces and a sign are skipped, what follows the digits is left
pub plain : strtol (utf8 "x  -12x") 1 ≡ answer (negsuc 11) 6 false
unfolding strtol_computes
plain = refl

-- no digits: the place is where it began, also past the end
pub missing
    : (strtol (utf8 "+") 0 ≡ answer (pos 0) 0 false) × (strtol (utf8 "  -x") 1 ≡ answer (pos 0) 1 false)
    × (strtol [] 0 ≡ answer (pos 0) 0 false) × (strtol (utf8 "12") 7 ≡ answer (pos 0) 7 false)
unfolding strtol_computes
missing = (refl, refl, refl, refl)

-- nine digits and ten, also after zeros; a space is no digit
pub short
    : (short_at (utf8 "x999999999.") 1 ≡ Some (few 999999999 10))
    × (short_at (utf8 "1000000000") 0 ≡ None)
    × (short_at (utf8 "0000000000012") 0 ≡ Some (few 12 13))
    × (short_at (utf8 " 1") 0 ≡ None)
unfolding short_at strtol_computes
short = (refl, refl, refl, refl)

-- two digits before a dot; at the end of the text, three of them, or one: none
pub pairs
    : (pair_at (utf8 "x07.") 1 ≡ Some (few 7 3))
    × (pair_at (utf8 "x07") 1 ≡ None)
    × (pair_at (utf8 "070.") 0 ≡ None)
    × (pair_at (utf8 "7.0") 0 ≡ None)
unfolding pair_at is_pair short_at strtol_computes
pairs = (refl, refl, refl, refl)

-- the signed 64-bit numbers end at 2 ^ 63 - 1 and at -2 ^ 63
pub ends
    : (strtol (utf8 "9223372036854775807") 0 ≡ answer (pos 9223372036854775807) 19 false)
    × (strtol (utf8 "9223372036854775808") 0 ≡ answer (pos 9223372036854775807) 19 true)
    × (strtol (utf8 "-9223372036854775808") 0 ≡ answer (negsuc 9223372036854775807) 20 false)
    × (strtol (utf8 "-9223372036854775809") 0 ≡ answer (negsuc 9223372036854775807) 20 true)
unfolding strtol_computes
ends = (refl, refl, refl, refl)
