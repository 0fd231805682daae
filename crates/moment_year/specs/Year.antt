-- The year, from the year, the century and AD or BC. Year 0 is 1 BC.
use Rattle.std.specs.Prelude.{◌≡◌, refl, not, ◌&&◌, ℕ, ℤ, pos, negsuc, neg_ℤ, ◌+ℤ◌, Ok, Result}
use Rattle.std.specs.Int.Signed.{lt_z, rem_z}
use Rattle.base_notation.specs.Choice.{when◌then◌else◌}
use Rattle.read_fields.specs.Fields.{get, is_zero, year, bc, cc, yysz}
use Rattle.read_fields.specs.declared.Fields.{Fields}
use Rattle.base_wrapping.specs.Wrap.{wrap32, ◌⊕◌, ◌⊖◌, ◌⊗◌}
use Rattle.moment_sums.specs.Checked.{◌plus◌, ◌times◌}
use Rattle.base_refusals.specs.declared.Refusal.{Refusal}

-- a number with the other sign, before Christ
abbrev pub signed_by : ℤ → ℤ → ℤ
signed_by is_bc z = when is_zero is_bc then z else pos 0 ⊖ z

-- the last two digits of a year in a century; before Christ the centuries count backwards
unfoldable pub year_in_century : ℤ → ℤ → Result ℤ Refusal
year_in_century century y =
    when is_zero y then Ok (century ⊗ pos 100 ⊕ (when lt_z century (pos 0) then pos 1 else pos 0))
    else when lt_z century (pos 0) then Ok (century ⊕ pos 1) times 100 plus neg_ℤ y plus pos 1
    else Ok (century ⊖ pos 1) times 100 plus y

-- a year by itself: 1 BC is year 0
abbrev pub plain_year : ℤ → ℤ
plain_year y = when lt_z y (pos 0) then y +ℤ pos 1 else y

-- the first year of a century
unfoldable pub first_of_century : ℤ → Result ℤ Refusal
first_of_century century = Ok (when lt_z century (pos 0) then century else century ⊖ pos 1) times 100 plus pos 1

-- the year: with a century only its last two digits count, unless it was read with more; 0 where neither was read
unfoldable pub year_of : Fields → Result ℤ Refusal
year_of f =
    let y = get f year in
    let century = signed_by (get f bc) (get f cc) in
    when is_zero y then (when is_zero (get f cc) then Ok (pos 0) else first_of_century century)
    else when not (is_zero (get f cc)) && lt_z (get f yysz) (pos 3) then year_in_century century (rem_z y (pos 100))
    else Ok (plain_year (signed_by (get f bc) y))

-- unfolds all that a year is computed by, for worked examples
unfoldable pub year_computes : ℕ
unfolding year_in_century first_of_century year_of wrap32
year_computes = 0

-- 00 of century 21 is 2100, 24 is 2024; century 1 BC begins with year -99, which is 100 BC
pub worked
    : (year_in_century (pos 21) (pos 0) ≡ Ok (pos 2100)) × (year_in_century (pos 21) (pos 24) ≡ Ok (pos 2024)) × (first_of_century (negsuc 0) ≡ Ok (negsuc 98))
    × (plain_year (negsuc 0) ≡ pos 0)
unfolding year_computes
worked = (refl, refl, refl, refl)
