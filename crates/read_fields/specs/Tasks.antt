-- What reading each pattern does: which field it sets, by which rule, and how wide its number is or which list has its
-- word.
use Rattle.std.specs.Prelude.{◌≡◌, refl, Bool, true, false, ◌&&◌, List, [], ◌∷◌, map, ℕ, ◌+◌, ◌*◌, ◌<◌, eqb}
use Prim.Native.String.{String}
use Rattle.base_notation.specs.Choice.{when◌then◌else◌}
use Rattle.base_notation.specs.Text.{utf8}
use Rattle.base_chars.specs.Fold.{folded}
use Rattle.template_patterns.specs.Patterns.{name_of, pattern_of}
use Rattle.read_fields.specs.Fields as F
use Rattle.read_fields.specs.declared.Kind.{Kind}
use Rattle.read_fields.specs.declared.Kind.TheVariants.{Nothing, Exact, Number, Word, Dropped, CommaYear, Offset, OffsetMinutes}
use Rattle.read_fields.specs.declared.Task.{Task}

-- kinds of a task: none; FX; a number; a word; a number that is dropped; a year with a comma; an offset; its minutes
abbrev pub nothing : Kind
nothing = Nothing

abbrev pub exact : Kind
exact = Exact

abbrev pub number : Kind
number = Number

abbrev pub word : Kind
word = Word

abbrev pub dropped : Kind
dropped = Dropped

abbrev pub comma_year : Kind
comma_year = CommaYear

abbrev pub offset : Kind
offset = Offset

abbrev pub offset_minutes : Kind
offset_minutes = OffsetMinutes

-- a kind by its number, as a task has it; any other number is that of nothing to read
abbrev pub kind_of : ℕ → Kind
kind_of k =
    when eqb k 1 then exact
    else when eqb k 2 then number
    else when eqb k 3 then word
    else when eqb k 4 then dropped
    else when eqb k 5 then comma_year
    else when eqb k 6 then offset
    else when eqb k 7 then offset_minutes
    else nothing

-- the number of a kind
abbrev pub kind_number : Kind → ℕ
kind_number Nothing = 0
kind_number Exact = 1
kind_number Number = 2
kind_number Word = 3
kind_number Dropped = 4
kind_number CommaYear = 5
kind_number Offset = 6
kind_number OffsetMinutes = 7

-- two kinds are the same, as a test
abbrev pub same_kind : Kind → Kind → Bool
same_kind a b = eqb (kind_number a) (kind_number b)

-- rules for a number: as it is; on the 12-hour clock; scaled to milliseconds; scaled to microseconds, without and with
-- digits of its own; an ISO weekday; a whole year; a year of few digits
abbrev pub plain : ℕ
plain = 0

abbrev pub hour12 : ℕ
hour12 = 1

abbrev pub millis : ℕ
millis = 2

abbrev pub micros : ℕ
micros = 3

abbrev pub fraction : ℕ
fraction = 4

abbrev pub iso_day : ℕ
iso_day = 5

abbrev pub whole_year : ℕ
whole_year = 6

abbrev pub part_year : ℕ
part_year = 7

-- rules for a word by its index in its list: odd indices; the same on the 12-hour clock; a month; a weekday; a Roman
-- month
abbrev pub odd : ℕ
odd = 0

abbrev pub odd_hour12 : ℕ
odd_hour12 = 1

abbrev pub month : ℕ
month = 2

abbrev pub weekday : ℕ
weekday = 3

abbrev pub roman_month : ℕ
roman_month = 4

-- the word lists by number
abbrev pub months_full : ℕ
months_full = 0

abbrev pub months_abbrev : ℕ
months_abbrev = 1

abbrev pub days_full : ℕ
days_full = 2

abbrev pub days_abbrev : ℕ
days_abbrev = 3

abbrev pub am_pm : ℕ
am_pm = 4

abbrev pub am_pm_long : ℕ
am_pm_long = 5

abbrev pub ad_bc : ℕ
ad_bc = 6

abbrev pub ad_bc_long : ℕ
ad_bc_long = 7

abbrev pub roman_months : ℕ
roman_months = 8

-- rules for an offset: hours alone; hours and minutes; the same, where a letter is refused
abbrev pub hours : ℕ
hours = 0

abbrev pub hours_minutes : ℕ
hours_minutes = 1

abbrev pub no_letter : ℕ
no_letter = 2

-- a task by its kind, its field, its rule and its operand: the width of a number, or the number of a word list
abbrev pub task : Kind → ℕ → ℕ → ℕ → Task
task kind field rule operand = record { kind = kind_number kind; field = field; rule = rule; operand = operand }

-- names that are read alike, and their task; a name is meant in either case
pub record Row : Type 0 where
  pub names : List (List ℕ)
  pub does : Task

infix 5 ◌⇒◌
abbrev ◌⇒◌ : List String → Task → Row
ns ⇒ does = record { names = map utf8 ns; does = does }

abbrev pub rows : List Row
rows =
    ("FX" ∷ [] ⇒ task exact 0 0 0)
    ∷ ("HH24" ∷ [] ⇒ task number F.hh plain 2)
    ∷ ("HH" ∷ "HH12" ∷ [] ⇒ task number F.hh hour12 2)
    ∷ ("MI" ∷ [] ⇒ task number F.mi plain 2)
    ∷ ("SS" ∷ [] ⇒ task number F.ss plain 2)
    ∷ ("SSSS" ∷ [] ⇒ task number F.ssss plain 4)
    ∷ ("SSSSS" ∷ [] ⇒ task number F.ssss plain 5)
    ∷ ("MS" ∷ [] ⇒ task number F.ms millis 3)
    ∷ ("US" ∷ [] ⇒ task number F.us micros 6)
    ∷ ("FF1" ∷ [] ⇒ task number F.us fraction 1)
    ∷ ("FF2" ∷ [] ⇒ task number F.us fraction 2)
    ∷ ("FF3" ∷ [] ⇒ task number F.us fraction 3)
    ∷ ("FF4" ∷ [] ⇒ task number F.us fraction 4)
    ∷ ("FF5" ∷ [] ⇒ task number F.us fraction 5)
    ∷ ("FF6" ∷ [] ⇒ task number F.us fraction 6)
    ∷ ("AM" ∷ "PM" ∷ [] ⇒ task word F.pm odd_hour12 am_pm)
    ∷ ("A.M." ∷ "P.M." ∷ [] ⇒ task word F.pm odd_hour12 am_pm_long)
    ∷ ("AD" ∷ "BC" ∷ [] ⇒ task word F.bc odd ad_bc)
    ∷ ("A.D." ∷ "B.C." ∷ [] ⇒ task word F.bc odd ad_bc_long)
    ∷ ("MONTH" ∷ [] ⇒ task word F.mm month months_full)
    ∷ ("MON" ∷ [] ⇒ task word F.mm month months_abbrev)
    ∷ ("RM" ∷ [] ⇒ task word F.mm roman_month roman_months)
    ∷ ("DAY" ∷ [] ⇒ task word F.d weekday days_full)
    ∷ ("DY" ∷ [] ⇒ task word F.d weekday days_abbrev)
    ∷ ("MM" ∷ [] ⇒ task number F.mm plain 2)
    ∷ ("DD" ∷ [] ⇒ task number F.dd plain 2)
    ∷ ("DDD" ∷ "IDDD" ∷ [] ⇒ task number F.ddd plain 3)
    ∷ ("D" ∷ [] ⇒ task number F.d plain 1)
    ∷ ("ID" ∷ [] ⇒ task number F.d iso_day 1)
    ∷ ("WW" ∷ "IW" ∷ [] ⇒ task number F.ww plain 2)
    ∷ ("W" ∷ [] ⇒ task number F.w plain 1)
    ∷ ("Q" ∷ [] ⇒ task dropped 0 0 1)
    ∷ ("CC" ∷ [] ⇒ task number F.cc plain 2)
    ∷ ("J" ∷ [] ⇒ task number F.j plain 1)
    ∷ ("Y,YYY" ∷ [] ⇒ task comma_year F.year whole_year 4)
    ∷ ("YYYY" ∷ "IYYY" ∷ [] ⇒ task number F.year whole_year 4)
    ∷ ("YYY" ∷ "IYY" ∷ [] ⇒ task number F.year part_year 3)
    ∷ ("YY" ∷ "IY" ∷ [] ⇒ task number F.year part_year 2)
    ∷ ("Y" ∷ "I" ∷ [] ⇒ task number F.year part_year 1)
    ∷ ("TZ" ∷ [] ⇒ task offset F.tzh no_letter 2)
    ∷ ("OF" ∷ [] ⇒ task offset F.tzh hours_minutes 2)
    ∷ ("TZH" ∷ [] ⇒ task offset F.tzh hours 2)
    ∷ ("TZM" ∷ [] ⇒ task offset_minutes F.tzm plain 2)
    ∷ []

-- two names are the same but for case
abbrev pub alike : List ℕ → List ℕ → Bool
alike [] [] = true
alike [] (b ∷ bs) = false
alike (a ∷ as') [] = false
alike (a ∷ as') (b ∷ bs) = eqb (folded a) (folded b) && alike as' bs

abbrev pub among : List ℕ → List (List ℕ) → Bool
among name [] = false
among name (n ∷ ns) = when alike name n then true else among name ns

abbrev pub task_named : List ℕ → List Row → Task
task_named name [] = task nothing 0 0 0
task_named name (r ∷ rs) = when among name r.names then r.does else task_named name rs

-- the task of the pattern number k
unfoldable pub task_of : ℕ → Task
task_of k = task_named (name_of k) rows

-- r is that task, and its field one of the 24
pub record Assigned (k : ℕ) (r : Task) : Type 0 where
  pub is : r ≡ task_of k
  pub known : r.field < 24

-- a task in one number: its operand, its rule, its kind and its field in 4, 4, 3 and 5 bits
abbrev pub packed : Task → ℕ
packed t = t.operand * 4096 + t.rule * 256 + t.kind * 32 + t.field

-- the task and the date mode of the pattern number k in one number
abbrev pub row_of : ℕ → ℕ
row_of k = (pattern_of k).mode * 65536 + packed (task_of k)

-- DD and dd, IDDD, Month; DD is a date of the Gregorian calendar
pub worked
    : (task_of 9 ≡ task number F.dd plain 2) × (task_of 67 ≡ task number F.dd plain 2) × (task_of 24 ≡ task number F.ddd plain 3)
    × (task_of 37 ≡ task word F.mm month months_full) × (row_of 9 ≡ 0x12047)
unfolding task_of
worked = (refl, refl, refl, refl, refl)
