-- The parts answer: limits and UTF-8 first, then the fields that are read, then the moment that they make.
use Rattle.std.specs.Prelude.{◌≡◌, Bool, not, ◌&&◌, ◌||◌, List, ℕ, ltb, ℤ, length, Err, Ok, Option, Result, ⊤}
use Rattle.base_notation.specs.Choice.{when◌then◌else◌}
use Rattle.base_settings.specs.Limits.{template_limit, input_limit}
use Rattle.base_settings.specs.declared.Settings.{Settings}
use Rattle.base_refusals.specs.declared.Refusal.{Refusal}
use Rattle.base_refusals.specs.declared.Refusal.TheVariants.{TooLong, NotUtf8, FieldOverflow}
use Rattle.base_chars.specs.Utf8.{well_formed}
use Rattle.read_fields.specs.Fields.{get, ff}
use Rattle.read_input.specs.Reader.{read_all}
use Rattle.read_fields.specs.declared.Fields.{Fields}
use Rattle.template_nodes.specs.Template.{nodes_by}
use Rattle.template_nodes.specs.declared.Node.{Node}
use Rattle.moment_date.specs.Dates.{dated_of, date_in_range, no_such_day}
use Rattle.moment_time.specs.Time.{clock_hour, minute_of, second_of, micros_of, time_in_range, checked_offset}
use Rattle.moment_parts.specs.declared.Unread.TheVariants.{By, NoSuchDay}
use Rattle.moment_date.specs.declared.Days.{Days}
use Rattle.moment_parts.specs.declared.Parts.{Parts}
use Rattle.moment_parts.specs.declared.Unread.{Unread}

-- refused, whatever the strict switch
abbrev pub refused_by : Refusal → Result Parts Unread
refused_by why = Err (By why)

-- the moment with its offset
abbrev pub with_offset : Fields → Days → ℤ → ℤ → Result (Option ℤ) Refusal → Result Parts Unread
with_offset f r hour us (Err why) = refused_by why
with_offset f r hour us (Ok offset) =
    Ok (record {
      year = r.year;
      month = r.month;
      day = r.day;
      hour = hour;
      minute = minute_of f;
      second = second_of f;
      micros = us;
      precision = get f ff;
      offset = offset;
      marks = r.set;
    })

-- the moment of a date, an hour and microseconds; its checks in order: date, under the strict switch the day without a
-- year, time, offset
unfoldable pub checked_moment : Bool → Fields → Days → ℤ → ℤ → Result Parts Unread
checked_moment strict f r hour us =
    when not (date_in_range r) then refused_by FieldOverflow
    else when strict && no_such_day r.set r.month r.day then Err NoSuchDay
    else when not (time_in_range hour (minute_of f) (second_of f) us) then refused_by FieldOverflow
    else with_offset f r hour us (checked_offset f)

-- what follows once the fraction is known, once the date is, and once the hour is
abbrev pub then_moment : Bool → Fields → Days → ℤ → Result ℤ Refusal → Result Parts Unread
then_moment strict f r hour (Err why) = refused_by why
then_moment strict f r hour (Ok us) = checked_moment strict f r hour us

abbrev pub then_micros : Bool → Fields → ℤ → Result Days Refusal → Result Parts Unread
then_micros strict f hour (Err why) = refused_by why
then_micros strict f hour (Ok r) = then_moment strict f r hour (micros_of f)

abbrev pub then_date : Bool → Fields → Result ℤ Refusal → Result Parts Unread
then_date strict f (Err why) = refused_by why
then_date strict f (Ok hour) = then_micros strict f hour (dated_of f)

-- the moment that the fields make: the hour, the date and the fraction, each refused in this order
unfoldable pub moment_of : Bool → Fields → Result Parts Unread
moment_of strict f = then_date strict f (clock_hour f)

-- the answer once the fields are read
abbrev pub then_fields : Bool → Result ⊤ Refusal → Fields → Result Parts Unread
then_fields strict (Ok tt) f = moment_of strict f
then_fields strict (Err why) f = refused_by why

-- what the nodes of a template t make of an input
abbrev pub answer_by : Bool → List Node → List ℕ → List ℕ → Result Parts Unread
answer_by strict ns t s = let r = read_all t s ns in then_fields strict r.verdict r.fields

-- a verdict and fields make that answer, whatever the strict switch
abbrev pub Makes : Result ⊤ Refusal → Fields → List Node → List ℕ → List ℕ → Type 0
Makes verdict f ns t s = (strict : Bool) → then_fields strict verdict f ≡ answer_by strict ns t s

-- the parts of an input within its limit
unfoldable pub parts_read : Bool → List Node → List ℕ → List ℕ → Result Parts Unread
parts_read strict ns t s = when not (well_formed s) then refused_by NotUtf8 else answer_by strict ns t s

-- the parts of an input by these nodes, for a caller with settings; the nodes have their own mode
unfoldable pub parts_by : Settings → List Node → List ℕ → List ℕ → Result Parts Unread
parts_by set ns t s = when ltb (input_limit set) (length s) then refused_by TooLong else parts_read set.strict ns t s

-- the parts of an input by a template, which is compiled in the caller's mode
unfoldable pub parts_of : Settings → List ℕ → List ℕ → Result Parts Unread
parts_of set t s =
    when ltb (template_limit set) (length t) || ltb (input_limit set) (length s) then refused_by TooLong
    else when not (well_formed t) then refused_by NotUtf8
    else parts_read set.strict (nodes_by set.accents t) t s
