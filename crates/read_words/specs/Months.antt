-- Months by their first letters. In a number of bytes the first is the lowest.
use Rattle.std.specs.Prelude.{◌≡◌, refl, Bool, List, [], ◌∷◌, ℕ, ◌+◌, ◌-◌, ◌*◌, ◌/◌, ◌%◌, ◌^◌, min, length, get_or, take}
use Rattle.std.specs.Int.Bits.{bit_or}
use Rattle.base_notation.specs.Choice.{when◌then◌else◌}
use Rattle.base_notation.specs.Text.{byte_at, utf8}
use Rattle.template_patterns.specs.Numbers.{packed}
use Rattle.template_patterns.specs.Words.{small_words}
use Rattle.template_patterns.specs.declared.tables.WordList.{WordList}
use Rattle.template_patterns.specs.declared.tables.WordList.TheVariants.{MonthsFull, MonthsAbbrev}

-- the short names of the months, or the full ones
abbrev pub month_list : Bool → WordList
month_list short = when short then MonthsAbbrev else MonthsFull

-- the eight bytes from a place on as a number, each with the bit 32 set, which makes a capital letter small
unfoldable pub letters_at : List ℕ → ℕ → ℕ
letters_at s at =
    bit_or
    (packed (byte_at s at ∷ byte_at s (at + 1) ∷ byte_at s (at + 2) ∷ byte_at s (at + 3)
    ∷ byte_at s (at + 4) ∷ byte_at s (at + 5) ∷ byte_at s (at + 6) ∷ byte_at s (at + 7) ∷ []))
    0x2020202020202020

-- one of 16 slots by the first three letters: each month has its own
abbrev pub slot_of : ℕ → ℕ
slot_of x = x % 2 ^ 24 * 101 / 2 ^ 16 % 16

-- the index of the month in a slot; of an empty one that of May
abbrev pub month_in : ℕ → ℕ
month_in slot = get_or (2 ∷ 7 ∷ 1 ∷ 4 ∷ 5 ∷ 4 ∷ 3 ∷ 11 ∷ 8 ∷ 10 ∷ 6 ∷ 9 ∷ 0 ∷ []) slot 4

-- its full name in small letters
abbrev pub name_in : ℕ → List ℕ
name_in slot = get_or (small_words MonthsFull) (month_in slot) []

-- the first eight letters of its name as a number
unfoldable pub number_in : ℕ → ℕ
number_in slot = packed (take 8 (name_in slot))

-- from the lowest bits on: the length of its name, its index, and how many bits of 64 the number leaves
unfoldable pub row_in : ℕ → ℕ
row_in slot = length (name_in slot) + 16 * month_in slot + 256 * (64 - 8 * min (length (name_in slot)) 8)

-- May is in slot 3: m is 0x6d, a is 0x61 and y is 0x79, and of 64 bits 24 are taken
pub may : (slot_of (letters_at (utf8 "5 MAY") 2) ≡ 3) × (number_in 3 ≡ 0x79616d) × (row_in 3 ≡ 3 + 16 * 4 + 256 * 40)
unfolding letters_at number_in row_in
may = (refl, refl, refl)
