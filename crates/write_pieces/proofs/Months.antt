-- The names of months in the table of the code. Assumes nothing.
-- `letters`: how many letters the full names have, as the code lists them. `few_letters`: at most nine.
-- `full_size`, `short_size`: the full name of a month is as long as the list says, its short name has three letters.
-- `name_part`: as many letters as a name has, taken from the month's row of the table, are the name in every case.
use mathlib.Core.Path.{◌≡◌}
use mathlib.Core.Bool.{Bool, true, false}
use mathlib.Core.List.{List, [], ◌∷◌, map}
use Prim.Native.Nat.{ℕ, ◌+◌, ◌-◌, ◌*◌, ◌≤◌}
use native.Mathlib.Omega.{arith}
use lib.ListN.{length, get_or, take, drop}
use Rattle.base_chars.specs.Fold.{folded}
use Rattle.calendar_gregorian.proofs.Dates.{by_month}
use Rattle.template_patterns.specs.Words.{word_table}
use Rattle.template_patterns.specs.declared.Case.{Case}
use Rattle.template_patterns.specs.declared.tables.WordList.TheVariants.{MonthsFull}
use Rattle.write_pieces.specs.Words.{in_case, month_names, month_text}
use Rattle.write_pieces.proofs.Cased.{cased_folded, cased_size}

abbrev pub letters : List ℕ
letters = 7 ∷ 8 ∷ 5 ∷ 5 ∷ 3 ∷ 4 ∷ 4 ∷ 6 ∷ 9 ∷ 7 ∷ 8 ∷ 8 ∷ []

pub few_letters : (month : ℕ) → 1 ≤ month → month ≤ 12 → get_or letters (month - 1) 0 ≤ 9
few_letters = by_month (λ m. get_or letters (m - 1) 0 ≤ 9) (omega arith)

-- the name of a month, full or of three letters
abbrev name : Bool → ℕ → List ℕ
name full month = get_or (month_names full) (month - 1) []

-- where a month's row of nine bytes begins
abbrev row : ℕ → ℕ
row month = 9 * (month - 1)

-- the row of a month begins with its name in small letters, full or short
abbrev Begins : Bool → ℕ → Type 0
Begins full month = take (length (name full month)) (drop (row month) (word_table MonthsFull)) ≡ map folded (name full month)

begins : (full : Bool) (month : ℕ) → 1 ≤ month → month ≤ 12 → Begins full month
unfolding word_table
begins true = by_month (Begins true) (search depth 20)
begins false = by_month (Begins false) (search depth 20)

module _ (case : Case) (month : ℕ) (from : 1 ≤ month) (to : month ≤ 12) (full : Bool) where
  pub full_size : full ≡ true → get_or letters (month - 1) 0 ≡ length (month_text case full month)
  full_size e =
      rw (e, cased_size case (name true month)) (by_month (λ m. get_or letters (m - 1) 0 ≡ length (name true m)) (omega arith) month from to)

  pub short_size : full ≡ false → 3 ≡ length (month_text case full month)
  short_size e = rw (e, cased_size case (name false month)) (by_month (λ m. 3 ≡ length (name false m)) (omega arith) month from to)

  -- n is the length of the name, and the part is the one that the code takes
  pub name_part : (table : List ℕ) → table ≡ word_table MonthsFull → (n : ℕ) → n ≡ length (month_text case full month)
      → in_case case (take (row month + n - row month) (drop (row month) table)) ≡ month_text case full month
  name_part table e n size =
      let same : row month + n - row month ≡ n = omega arith in
      rw (same, e, size, cased_size case (name full month), begins full month from to) (cased_folded case (name full month))
