-- `write_pieces::numbers::number_of`: the numbers of a moment are small and not negative, so each cast keeps its value
-- and no sum leaves 32 bits. Each arm is then its piece's number.
use Rattle.std.proofs.Common.{ℕ, ◌+◌, ◌%◌, ap, arith, sym, ◌∙◌}
use mir.Syntax.{w32, w64}
use Rattle.write_pieces.specs.Pieces.{number_of}
use Rattle.write_pieces.proofs.Lengths.{micros_last}
use Rattle.write_pieces.proofs.Moments.{cast, dates, numbers, result, value}
use Rattle.write_pieces.proofs.numbers.number_of.Goals as goal

-- casts
pub overflow_cast-result : goal.overflow_cast-result
overflow_cast-result c = cast (numbers _ c.args.m.is_one).year w32 tt

pub overflow_cast-result-in-Month : goal.overflow_cast-result-in-Month
overflow_cast-result-in-Month c = cast (numbers _ c.args.m.is_one).month w32 tt

pub overflow_cast-result-in-Day : goal.overflow_cast-result-in-Day
overflow_cast-result-in-Day c = cast (numbers _ c.args.m.is_one).day w32 tt

pub overflow_cast-result-in-YearDay : goal.overflow_cast-result-in-YearDay
overflow_cast-result-in-YearDay c = cast (result c.day_of_year.ensures (dates (numbers _ c.args.m.is_one)).year_day) w64 tt

pub overflow_cast-result-in-WeekYear : goal.overflow_cast-result-in-WeekYear
overflow_cast-result-in-WeekYear c = cast (result c.pg_date2isoyear.ensures (dates (numbers _ c.args.m.is_one)).week_year) w32 tt

pub overflow_cast-result-in-Week : goal.overflow_cast-result-in-Week
overflow_cast-result-in-Week c = cast (result c.pg_date2isoweek.ensures (dates (numbers _ c.args.m.is_one)).week) w32 tt

pub overflow_cast-result-in-Weekday : goal.overflow_cast-result-in-Weekday
overflow_cast-result-in-Weekday c = cast (result c.pg_date2j.ensures (dates (numbers _ c.args.m.is_one)).day_number_lem) w32 tt

pub overflow_cast-result-in-Hour24 : goal.overflow_cast-result-in-Hour24
overflow_cast-result-in-Hour24 c = cast (numbers _ c.args.m.is_one).hour w32 tt

pub overflow_cast-result-in-Hour12 : goal.overflow_cast-result-in-Hour12
overflow_cast-result-in-Hour12 c = cast (numbers _ c.args.m.is_one).hour w32 tt

pub overflow_cast-result-in-Minute : goal.overflow_cast-result-in-Minute
overflow_cast-result-in-Minute c = cast (numbers _ c.args.m.is_one).minute w32 tt

pub overflow_cast-result-in-Second : goal.overflow_cast-result-in-Second
overflow_cast-result-in-Second c = cast (numbers _ c.args.m.is_one).second w32 tt

pub overflow_cast-result-in-DaySecond : goal.overflow_cast-result-in-DaySecond
overflow_cast-result-in-DaySecond c = cast (numbers _ c.args.m.is_one).hour w32 tt

pub overflow_cast-result-in-DaySecond-2 : goal.overflow_cast-result-in-DaySecond-2
overflow_cast-result-in-DaySecond-2 c = cast (numbers _ c.args.m.is_one).minute w32 tt

pub overflow_cast-result-in-DaySecond-3 : goal.overflow_cast-result-in-DaySecond-3
overflow_cast-result-in-DaySecond-3 c = cast (numbers _ c.args.m.is_one).second w32 tt

pub overflow_cast-result-in_default : goal.overflow_cast-result-in_default
overflow_cast-result-in_default c = cast (numbers _ c.args.m.is_one).micros w32 tt

-- the second of the day
pub overflow_mul-result : goal.overflow_mul-result
overflow_mul-result c = let known = numbers _ c.args.m.is_one in omega (arith, value known.hour w32 tt, known.hour_to)

pub overflow_mul-result-in-DaySecond : goal.overflow_mul-result-in-DaySecond
overflow_mul-result-in-DaySecond c =
    let known = numbers _ c.args.m.is_one in omega (arith, value known.minute w32 tt, known.minute_to)

pub overflow_add-result-in-DaySecond : goal.overflow_add-result-in-DaySecond
overflow_add-result-in-DaySecond c =
    let known = numbers _ c.args.m.is_one in
    omega (arith, value known.hour w32 tt, value known.minute w32 tt, known.hour_to, known.minute_to)

pub overflow_add-result-in-DaySecond-2 : goal.overflow_add-result-in-DaySecond-2
overflow_add-result-in-DaySecond-2 c =
    let known = numbers _ c.args.m.is_one in
    omega (arith, value known.hour w32 tt, value known.minute w32 tt, value known.second w32 tt, known.hour_to, known.minute_to, known.second_to)

-- what each arm returns
pub returns-in-Year : goal.returns-in-Year
unfolding number_of
returns-in-Year c = rw c.in-Year.is (value (numbers _ c.args.m.is_one).year w32 tt)

pub returns-in-Month : goal.returns-in-Month
unfolding number_of
returns-in-Month c = rw c.in-Month.is (value (numbers _ c.args.m.is_one).month w32 tt)

pub returns-in-Day : goal.returns-in-Day
unfolding number_of
returns-in-Day c = rw c.in-Day.is (value (numbers _ c.args.m.is_one).day w32 tt)

pub returns-in-YearDay : goal.returns-in-YearDay
unfolding number_of
returns-in-YearDay c = rw c.in-YearDay.is (value (result c.day_of_year.ensures (dates (numbers _ c.args.m.is_one)).year_day) w64 tt)

pub returns-in-WeekYear : goal.returns-in-WeekYear
unfolding number_of
returns-in-WeekYear c = rw c.in-WeekYear.is (value (result c.pg_date2isoyear.ensures (dates (numbers _ c.args.m.is_one)).week_year) w32 tt)

pub returns-in-Week : goal.returns-in-Week
unfolding number_of
returns-in-Week c = rw c.in-Week.is (value (result c.pg_date2isoweek.ensures (dates (numbers _ c.args.m.is_one)).week) w32 tt)

pub returns-in-Weekday : goal.returns-in-Weekday
unfolding number_of
returns-in-Weekday c = rw (c.in-Weekday.is, value (result c.pg_date2j.ensures (dates (numbers _ c.args.m.is_one)).day_number_lem) w32 tt)

pub returns-in-Hour24 : goal.returns-in-Hour24
unfolding number_of
returns-in-Hour24 c = rw c.in-Hour24.is (value (numbers _ c.args.m.is_one).hour w32 tt)

pub returns-in-Hour12 : goal.returns-in-Hour12
unfolding number_of
returns-in-Hour12 c = rw c.in-Hour12.is (ap (λ (h : ℕ). (h + 11) % 12 + 1) (value (numbers _ c.args.m.is_one).hour w32 tt))

pub returns-in-Minute : goal.returns-in-Minute
unfolding number_of
returns-in-Minute c = rw c.in-Minute.is (value (numbers _ c.args.m.is_one).minute w32 tt)

pub returns-in-Second : goal.returns-in-Second
unfolding number_of
returns-in-Second c = rw c.in-Second.is (value (numbers _ c.args.m.is_one).second w32 tt)

pub returns-in-DaySecond : goal.returns-in-DaySecond
unfolding number_of
returns-in-DaySecond c = let known = numbers _ c.args.m.is_one in rw (c.in-DaySecond.is, value known.hour w32 tt, value known.minute w32 tt, value known.second w32 tt)

pub returns-in_default : goal.returns-in_default
returns-in_default c =
    let other = c.in_default in
    value (numbers _ c.args.m.is_one).micros w32 tt
    ∙ sym (micros_last c.args.piece c.args.m.moment other.not-Year other.not-Month other.not-Day other.not-YearDay other.not-WeekYear other.not-Week other.not-Weekday other.not-Hour24 other.not-Hour12 other.not-Minute other.not-Second other.not-DaySecond)
