-- What reading a written text is to set: for each piece that the writer writes, the fields and what goes into them.
-- `settings`: the table of it. `own_of`: what a piece puts into its own field.
-- `filled_by`: fields with the settings of some pieces. `expected`: the same, where nothing was set before.
use mathlib.Core.Path.{◌≡◌, refl}
use mathlib.Core.Bool.{◌||◌}
use mathlib.Core.List.{List, [], ◌∷◌, map}
use Prim.Native.Nat.{ℕ, ◌+◌, ◌%◌}
use lib.Dec.{eqb, ltb}
use lib.IntN.{ℤ, pos, nat_abs}
use Rattle.base_notation.specs.Choice.{when◌then◌else◌}
use Rattle.calendar_gregorian.specs.IsoWeek.{weeks_compute}
use Rattle.template_patterns.specs.Patterns as P
use Rattle.read_fields.specs.Fields as F
use Rattle.read_fields.specs.declared.Fields.{Fields}
use Rattle.write_text.specs.Full.{times}
use Rattle.write_pieces.specs.Moment.{moment}
use Rattle.write_pieces.specs.Pieces.{year, month, day, year_day, week_year, week, weekday, hour24, hour12, minute, second, day_second, micros, marker, dotted_marker, month_name, short_month, number_of, is_morning}
use Rattle.write_pieces.specs.declared.Moment.{Moment}

-- what goes into a field: a number whatever the moment is, or the piece's own
pub data Kept : Type 0 where
  always : ℕ → Kept
  own : Kept

-- a piece sets a field
pub record Setting : Type 0 where
  pub piece : ℕ
  pub field : ℕ
  pub kept : Kept

infix 80 ◌sets◌to◌
abbrev pub ◌sets◌to◌ : ℕ → ℕ → Kept → Setting
p sets k to v = record { piece = p; field = k; kept = v }

-- the settings of each piece, its date mode first
abbrev pub settings : List Setting
settings =
    year sets F.mode to always P.gregorian
    ∷ year sets F.year to own
    ∷ year sets F.yysz to always 4
    ∷ month sets F.mode to always P.gregorian
    ∷ month sets F.mm to own
    ∷ day sets F.mode to always P.gregorian
    ∷ day sets F.dd to own
    ∷ year_day sets F.mode to always P.gregorian
    ∷ year_day sets F.ddd to own
    ∷ week_year sets F.mode to always P.iso_week
    ∷ week_year sets F.year to own
    ∷ week_year sets F.yysz to always 4
    ∷ week sets F.mode to always P.iso_week
    ∷ week sets F.ww to own
    ∷ weekday sets F.mode to always P.iso_week
    ∷ weekday sets F.d to own
    ∷ hour24 sets F.hh to own
    ∷ hour12 sets F.hh to own
    ∷ hour12 sets F.clock to always 12
    ∷ minute sets F.mi to own
    ∷ second sets F.ss to own
    ∷ day_second sets F.ssss to own
    ∷ micros sets F.us to own
    ∷ marker sets F.pm to own
    ∷ marker sets F.clock to always 12
    ∷ dotted_marker sets F.pm to own
    ∷ dotted_marker sets F.clock to always 12
    ∷ month_name sets F.mode to always P.gregorian
    ∷ month_name sets F.mm to own
    ∷ short_month sets F.mode to always P.gregorian
    ∷ short_month sets F.mm to own
    ∷ []

-- a piece's own number: of a marker 0 for the morning and 1 for the afternoon; of a name its month; of a weekday 1 for
-- Sunday, 2 for Monday; else what was written
unfoldable pub own_of : ℕ → Moment → ℕ
own_of p m =
    when eqb p marker || eqb p dotted_marker then (when is_morning m then 0 else 1)
    else when eqb p month_name || eqb p short_month then nat_abs m.month
    else when eqb p weekday then number_of p m % 7 + 1
    else number_of p m

-- what a piece puts into a field at a moment
abbrev pub value_of : Kept → ℕ → Moment → ℤ
value_of (always n) p m = pos n
value_of own p m = pos (own_of p m)

-- fields with the settings of pieces, in the table's order
unfoldable pub filled_by : List Setting → List ℕ → Moment → Fields → Fields
filled_by [] ps m f = f
filled_by (r ∷ rs) ps m f =
    filled_by rs ps m (when ltb 0 (times r.piece ps) then F.put f r.field (value_of r.kept r.piece m) else f)

-- the fields that pieces set, whatever their order
unfoldable pub expected : List ℕ → Moment → Fields
expected ps m = filled_by settings ps m F.no_fields

-- 15:04:05.000006 on the 12-hour clock of Friday, January 1 of 2021, by its ISO week
pub worked
    : map (F.get (expected (micros ∷ marker ∷ weekday ∷ week ∷ week_year ∷ second ∷ minute ∷ hour12 ∷ []) (moment 2021 1 1 15 4 5 6)))
    (F.mode ∷ F.hh ∷ F.pm ∷ F.clock ∷ F.mi ∷ F.ss ∷ F.us ∷ F.year ∷ F.yysz ∷ F.ww ∷ F.d ∷ F.dd ∷ [])
    ≡ pos 2 ∷ pos 3 ∷ pos 1 ∷ pos 12 ∷ pos 4 ∷ pos 5 ∷ pos 6 ∷ pos 2020 ∷ pos 4 ∷ pos 53 ∷ pos 6 ∷ pos 0 ∷ []
unfolding expected filled_by times own_of number_of weeks_compute
worked = refl

-- a name sets the month and the date mode
pub names
    : map (F.get (expected (day ∷ month_name ∷ year ∷ []) (moment 2021 9 1 15 4 5 6))) (F.mode ∷ F.year ∷ F.mm ∷ F.dd ∷ F.hh ∷ [])
    ≡ pos 1 ∷ pos 2021 ∷ pos 9 ∷ pos 1 ∷ pos 0 ∷ []
unfolding expected filled_by times own_of number_of
names = refl
