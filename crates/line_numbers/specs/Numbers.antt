-- Items: numbers, and bytes in hexadecimal digits.
use Rattle.std.specs.Prelude.{◌≡◌, refl, Option, Some, None, ◌||◌, not, List, [], ◌∷◌, map, ℕ, ◌+◌, ◌-◌, ◌*◌, eqb, ℤ, pos, negsuc, length}
use Prim.Native.Char.{code}
use Rattle.std.specs.Int.Signed.{lt_z}
use Rattle.base_strtol.specs.Strtol.{strtol_computes, strtol}
use Rattle.base_notation.specs.Choice.{when◌then◌else◌}
use Rattle.base_notation.specs.Text.{utf8}
use Rattle.base_chars.specs.Range.{◌‥◌, ◌∈◌}

-- an item is a number where strtol reads one to its end, within 64 bits
unfoldable pub number_of : List ℕ → Option ℤ
number_of text =
    let n = strtol text 0 in
    when n.overflow || eqb n.end 0 || not (eqb n.end (length text)) then None else Some n.value

-- a number of 32 bits, and an item that is one
unfoldable pub narrowed : ℤ → Option ℤ
narrowed z = when lt_z z (negsuc 2147483647) || lt_z (pos 2147483647) z then None else Some z

unfoldable pub narrow : Option ℤ → Option ℤ
narrow (Some z) = narrowed z
narrow None = None

abbrev pub int_of : List ℕ → Option ℤ
int_of text = narrow (number_of text)

-- the value of a hexadecimal digit; any other byte has none
unfoldable pub hex_digit : ℕ → Option ℕ
hex_digit b =
    when b ∈ code "0" ‥ code "9" then Some (b - code "0")
    else when b ∈ code "a" ‥ code "f" then Some (b - code "a" + 10)
    else when b ∈ code "A" ‥ code "F" then Some (b - code "A" + 10)
    else None

-- the byte of two digits in front of more bytes; nothing where one is no digit
abbrev pub byte_before : Option ℕ → Option ℕ → List ℕ → List ℕ
byte_before (Some h) (Some l) bytes = (h * 16 + l) ∷ bytes
byte_before (Some h) None bytes = []
byte_before None l bytes = []

-- each pair of hexadecimal digits is a byte, up to the first pair that is none
unfoldable pub bytes_of : List ℕ → List ℕ
bytes_of [] = []
bytes_of (a ∷ []) = []
bytes_of (a ∷ b ∷ s) = byte_before (hex_digit a) (hex_digit b) (bytes_of s)

pub numbers
    : map number_of (utf8 "2024" ∷ utf8 "-7" ∷ utf8 "" ∷ utf8 "-" ∷ utf8 "12x" ∷ utf8 "9223372036854775808" ∷ [])
    ≡ Some (pos 2024) ∷ Some (negsuc 6) ∷ None ∷ None ∷ None ∷ None ∷ []
unfolding number_of strtol_computes
numbers = refl

pub ints
    : map int_of (utf8 "2147483647" ∷ utf8 "2147483648" ∷ utf8 "-2147483648" ∷ utf8 "-2147483649" ∷ utf8 "7 " ∷ [])
    ≡ Some (pos 2147483647) ∷ None ∷ Some (negsuc 2147483647) ∷ None ∷ None ∷ []
unfolding narrow narrowed number_of strtol_computes
ints = refl

pub hexadecimal : (bytes_of (utf8 "4a0Fff") ≡ 0x4a ∷ 0x0f ∷ 0xff ∷ []) × (bytes_of (utf8 "4ag0ff") ≡ 0x4a ∷ []) × (bytes_of (utf8 "4a0") ≡ 0x4a ∷ [])
unfolding bytes_of hex_digit
hexadecimal = (refl, refl, refl)
