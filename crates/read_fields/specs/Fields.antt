-- The fields that a template reads (TmFromChar of formatting.c): a list of numbers, 0 where a field is absent.
use Rattle.std.specs.Prelude.{Bool, not, List, ℕ, eqb, ℤ, pos, get_or, set, replicate, Err, Ok, Result, ⊤}
use Rattle.base_refusals.specs.declared.Refusal.{Refusal}
pub use Rattle.read_integers.specs.Setting.{eq_ℤ, is_zero, conflicts}
use Rattle.read_fields.specs.declared.Fields.{Fields}
use Rattle.read_fields.specs.declared.Outcome.{Outcome}
use Rattle.read_fields.specs.declared.Place.{Place}
use Rattle.read_fields.specs.declared.Reading.{Reading}

-- the fields by number: the date mode; hour, half of the day, minute, second, second of the day; weekday, day of the
-- month, day of the year, month; millisecond; year, before Christ, week of the year, week of the month, century, Julian
-- day; microsecond; digits of the year; clock of 12 or 24 hours; sign, hours and minutes of the offset; digits of the
-- fraction
abbrev pub mode : ℕ
mode = 0

abbrev pub hh : ℕ
hh = 1

abbrev pub pm : ℕ
pm = 2

abbrev pub mi : ℕ
mi = 3

abbrev pub ss : ℕ
ss = 4

abbrev pub ssss : ℕ
ssss = 5

abbrev pub d : ℕ
d = 6

abbrev pub dd : ℕ
dd = 7

abbrev pub ddd : ℕ
ddd = 8

abbrev pub mm : ℕ
mm = 9

abbrev pub ms : ℕ
ms = 10

abbrev pub year : ℕ
year = 11

abbrev pub bc : ℕ
bc = 12

abbrev pub ww : ℕ
ww = 13

abbrev pub w : ℕ
w = 14

abbrev pub cc : ℕ
cc = 15

abbrev pub j : ℕ
j = 16

abbrev pub us : ℕ
us = 17

abbrev pub yysz : ℕ
yysz = 18

abbrev pub clock : ℕ
clock = 19

abbrev pub tzsign : ℕ
tzsign = 20

abbrev pub tzh : ℕ
tzh = 21

abbrev pub tzm : ℕ
tzm = 22

abbrev pub ff : ℕ
ff = 23

-- no field read
abbrev pub no_fields : Fields
no_fields = record { values = replicate 24 (pos 0) }

-- the fields that an array lends
abbrev pub fields_of : List ℤ → Fields
fields_of values = record { values = values }

abbrev pub get : Fields → ℕ → ℤ
get f k = get_or f.values k (pos 0)

abbrev pub put : Fields → ℕ → ℤ → Fields
put f k z = record { values = set f.values k z }

-- a pattern that was read, and one that was refused, with the fields and the place then
abbrev pub read : Fields → Place → Reading
read f p = record { verdict = (Ok tt); fields = f; place = p }

abbrev pub refuse : Refusal → Fields → Place → Reading
refuse why f p = record { verdict = Err why; fields = f; place = p }

-- the same with the fields in an array that is lent: how it went, and what the array then holds
abbrev pub went : Result ⊤ Refusal → Place → Outcome
went v p = record { verdict = v; place = p }

abbrev pub read_into : Outcome → List ℤ → Reading
read_into o values = record { verdict = o.verdict; fields = fields_of values; place = o.place }

-- FX was read
abbrev pub is_exact : Place → Bool
is_exact p = not (eqb p.fx 0)

abbrev pub at_place : Place → ℕ → Place
at_place p at = record { at = at; extra = p.extra; fx = p.fx }

-- the reading goes on with the rest after what was read, and ends at a refusal
abbrev pub onward : Result ⊤ Refusal → Reading → Reading → Reading
onward (Ok tt) r rest = rest
onward (Err why) r rest = r
