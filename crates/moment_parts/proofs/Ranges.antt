-- Every answer is a moment in range or a refusal by its number. From the definitions alone; assumes nothing.
-- `parts_by_answered`: for any nodes, template and input, of any bytes and length, the answer is a moment in range,
-- with what its marks say, or a refusal by a number from 1 to 16, or by 25 under the strict switch. `answered`: the
-- same by a template.
-- `parts_in_range`: so the parts of every moment that is answered are in range.
-- `moment_answered`, `moment_in_range`: the same for any fields whose digits of a fraction are 0 to 6, however they
-- were read.
use Rattle.std.specs.Prelude.{Err, None, Ok, Result, Some, ⊤}
use mathlib.Core.Path.{◌≡◌, refl, subst}
use mathlib.Core.Bool.{Bool, true, false, not, ◌&&◌, ◌||◌, false≢true}
use mathlib.Core.List.{List}
use mathlib.Core.Logic.{inl, inr}
use Prim.Native.Nat.{ℕ, ◌+◌, ◌≤◌, zero-le}
use native.Mathlib.Omega.{arith}
use borrow.Author.Tests.{eq-eqb, le-ltb, not-false}
use lib.Dec.{ltb}
use lib.IntN.{ℤ, pos, neg_ℤ, nat_abs}
use lib.ListN.{length}
use lib.Signed.{lt_z}
use Rattle.base_notation.specs.Choice.{when◌then◌else◌}
use Rattle.base_notation.proofs.Cases.{by_if, both}
use Rattle.base_settings.specs.Limits.{template_limit, input_limit}
use Rattle.base_settings.specs.declared.Settings.{Settings}
use Rattle.base_refusals.specs.Report.{report_of}
use Rattle.base_refusals.specs.declared.Refusal.{Refusal}
use Rattle.base_refusals.specs.declared.Refusal.TheVariants.{TooLong, NotUtf8, MixedDates, Conflict, Short, Narrow, NotInteger, OutOfRange, NoWord, NotTwoNumbers, YearOutOfRange, ZoneLetter, HourOfTwelve, NoYear, FieldOverflow, OffsetRange}
use Rattle.base_chars.specs.Utf8.{well_formed}
use Rattle.calendar_gregorian.specs.Civil.{length_of}
use Rattle.calendar_gregorian.specs.Gregorian.{is_leap}
use Rattle.read_fields.specs.Fields.{get, is_zero, tzsign, tzh, tzm, ff}
use Rattle.read_input.specs.Reader.{read_all}
use Rattle.read_fields.specs.declared.Fields.{Fields}
use Rattle.template_nodes.specs.Template.{nodes_by}
use Rattle.template_nodes.specs.declared.Node.{Node}
use Rattle.moment_date.specs.Dates.{year_bit, month_bit, day_bit, all_bits, is_set, part_in_range, day_in_month, date_in_range, dated_of, no_such_day}
use Rattle.moment_parts.specs.Parts.{with_offset, checked_moment, then_moment, then_micros, then_date, moment_of, then_fields, parts_read, parts_by, parts_of, refused_by}
use Rattle.moment_sums.specs.Within.{Within, below}
use Rattle.moment_parts.specs.Ranges.{OffsetWithin, InRange, Answered}
use Rattle.moment_parts.specs.Report.{unread_report}
use Rattle.moment_time.specs.Time.{minute_of, second_of, clock_hour, micros_of, time_in_range, east_of, offset_of, offset_in_range, checked_offset}
use Rattle.moment_date.specs.declared.Days.{Days}
use Rattle.moment_parts.specs.declared.Parts.{Parts}
use Rattle.read_input.proofs.Precision.{read_precise}
use Rattle.moment_date.proofs.Marks.{Marked, MarkedDate, marked}
use Rattle.moment_date.proofs.Never.{has_first, longest, three_bits}
use Rattle.moment_time.proofs.Offsets.{seconds, east_range, west_range}
use Rattle.moment_sums.proofs.Tests.{failed, passed}
use Rattle.moment_sums.proofs.Within.{within, from_zero}

-- each refusal but that of the strict switch has a number from 1 to 16
numbered : (why : Refusal) → (1 ≤ (report_of why).number) × ((report_of why).number ≤ 16)
unfolding report_of
numbered TooLong = (omega arith, omega arith)
numbered NotUtf8 = (omega arith, omega arith)
numbered (MixedDates p) = (omega arith, omega arith)
numbered (Conflict p) = (omega arith, omega arith)
numbered (Short p width left) = (omega arith, omega arith)
numbered (Narrow p width parsed) = (omega arith, omega arith)
numbered (NotInteger p) = (omega arith, omega arith)
numbered (OutOfRange p) = (omega arith, omega arith)
numbered (NoWord p) = (omega arith, omega arith)
numbered (NotTwoNumbers p) = (omega arith, omega arith)
numbered (YearOutOfRange p) = (omega arith, omega arith)
numbered (ZoneLetter p) = (omega arith, omega arith)
numbered (HourOfTwelve hour) = (omega arith, omega arith)
numbered NoYear = (omega arith, omega arith)
numbered FieldOverflow = (omega arith, omega arith)
numbered OffsetRange = (omega arith, omega arith)

refused : (strict : Bool) (why : Refusal) → Answered strict (refused_by why)
unfolding unread_report
refused strict why = inl (numbered why)

-- an offset in its range is at most 15:59 east or west
east_within : (f : Fields) → Within 0 15 (get f tzh) → Within 0 59 (get f tzm) → nat_abs (east_of f) ≤ 57540
unfolding east_of
east_within f h m =
    by_if (λ z. nat_abs z ≤ 57540) (lt_z (get f tzsign) (pos 0)) (neg_ℤ (seconds (get f tzh) (get f tzm))) (seconds (get f tzh) (get f tzm))
    (λ e. west_range h m) (λ e. east_range h m)

offset_within : (f : Fields) → offset_in_range f ≡ true → OffsetWithin (offset_of f)
unfolding offset_in_range offset_of
offset_within f e = split (is_zero (get f tzsign)) e
  where
    split : (b : Bool) → (b || below (get f tzh) 16 && below (get f tzm) 60) ≡ true → OffsetWithin (when b then None else Some (east_of f))
    split true e = tt
    split false e =
        let tests = both (below (get f tzh) 16) (below (get f tzm) 60) e in
        east_within f (from_zero (get f tzh) tests.0) (from_zero (get f tzm) tests.1)

-- a month or day: outside its range it is not set, and so 1
part_within : (set bit high : ℕ) (z : ℤ) → 1 ≤ high → (is_set bit set ≡ false → z ≡ pos 1) → part_in_range set bit z (pos high) ≡ true → Within 1 high z
part_within set bit high z h unset e = split (is_set bit set) refl (lt_z z (pos 1)) refl (lt_z (pos high) z) refl
  where
    split : (b : Bool) → is_set bit set ≡ b → (l : Bool) → lt_z z (pos 1) ≡ l → (u : Bool) → lt_z (pos high) z ≡ u → Within 1 high z
    split false p l q u r = record { at = 1; is = unset p; from = omega arith; to = h }
    split true p false q false r = within z q r
    split true p true q u r = absurd (false≢true (rw (p, q) at e))
    split true p false q true r = absurd (false≢true (rw (p, q, r) at e))

-- a day that is at least 1, in a month that has it
in_month : (r : Days) {high : ℕ} → Within 1 high r.day → day_in_month r ≡ true → r.set ≡ all_bits
    → Within 1 (length_of (is_leap (nat_abs r.year)) r.month) r.day
in_month r w e m =
    within r.day (rw w.is (le-ltb w.at 1 w.from))
    (failed (lt_z (pos (length_of (is_leap (nat_abs r.year)) r.month)) r.day) (rw (eq-eqb r.set all_bits m) at e))

-- a date in its ranges, whose month has the day where year, month and day are all marked
module _ (r : Days) (marks : Marked r) (month : Within 1 12 r.month) (day : Within 1 31 r.day)
    (whole : r.set ≡ all_bits → Within 1 (length_of (is_leap (nat_abs r.year)) r.month) r.day) where
  year_marked : (r.year ≡ pos 0 → ⊥) → is_set year_bit r.set ≡ true
  year_marked year = not-false _ (split (is_set year_bit r.set) refl)
    where
      split : (b : Bool) → is_set year_bit r.set ≡ b → not b ≡ false
      split true e = refl
      split false e = absurd (year (marks.year e))

  -- in every year but 0 the month has the day
  dated : (r.year ≡ pos 0 → ⊥) → Within 1 (length_of (is_leap (nat_abs r.year)) r.month) r.day
  dated year =
      has_first (is_leap (nat_abs r.year)) r marks month day
      (λ m d. whole (rw (year_marked year, m, d) at (three_bits r.set marks.mask)))

  -- and where it is not one that its month never has, it is one of a leap year
  possible : no_such_day r.set r.month r.day ≡ false → Within 1 (length_of true r.month) r.day
  unfolding no_such_day
  possible e =
      has_first true r marks month day
      (λ m d. split (is_set year_bit r.set) (rw (m, d) at (three_bits r.set marks.mask)) refl)
    where
      split : (y : Bool) → r.set ≡ (when is_set year_bit r.set then 1 else 0) + 2 + 4 → is_set year_bit r.set ≡ y → Within 1 (length_of true r.month) r.day
      split true is y =
          let has = whole (rw y at is) in
          record { at = has.at; is = has.is; from = has.from; to = omega (arith, has.to, longest (is_leap (nat_abs r.year)) r.month) }
      split false is y =
          within r.day (rw day.is (le-ltb day.at 1 day.from)) (rw (eq-eqb r.set 6 (rw y at is)) at e)

-- a conjunction that failed, though its first test passed
second : (a b : Bool) → (a && b) ≡ false → a ≡ true → b ≡ false
second a b e p = rw p at e

-- what the checks leave is in range
module _ (strict : Bool) (f : Fields) (few : Within 0 6 (get f ff)) (r : Days) (hour us : ℤ) (m : Marked r) where
  in_range_of : date_in_range r ≡ true → (strict && no_such_day r.set r.month r.day) ≡ false
      → time_in_range hour (minute_of f) (second_of f) us ≡ true → offset_in_range f ≡ true
      → Answered strict (with_offset f r hour us (Ok (offset_of f)))
  unfolding date_in_range time_in_range
  in_range_of d n t o =
      let month_test = both (part_in_range r.set month_bit r.month (pos 12)) _ d in
      let day_test = both (part_in_range r.set day_bit r.day (pos 31)) _ month_test.1 in
      let micros_test = both (below hour 24 && below (minute_of f) 60 && below (second_of f) 60) (below us 1000000) t in
      let second_test = both (below hour 24 && below (minute_of f) 60) (below (second_of f) 60) micros_test.0 in
      let hour_minute = both (below hour 24) (below (minute_of f) 60) second_test.0 in
      let day = part_within r.set day_bit 31 r.day (omega arith) m.day day_test.0 in
      let month = part_within r.set month_bit 12 r.month (omega arith) m.month month_test.0 in
      let whole = in_month r day day_test.1 in
      record {
        hour = from_zero hour hour_minute.0;
        minute = from_zero (minute_of f) hour_minute.1;
        second = from_zero (second_of f) second_test.1;
        micros = from_zero us micros_test.1;
        precision = few;
        month = month;
        day = day;
        offset = offset_within f o;
        marks = m.mask;
        no_year = m.year;
        no_month = m.month;
        no_day = m.day;
        year = year_marked r m month day whole;
        in_month = whole;
        dated = dated r m month day whole;
        possible = λ on. possible r m month day whole (second strict _ n on);
      }

  checked_answered : Answered strict (checked_moment strict f r hour us)
  unfolding checked_moment checked_offset unread_report
  checked_answered =
      by_if (Answered strict) (not (date_in_range r)) _ _ (λ e. refused strict FieldOverflow)
      (λ d. by_if (Answered strict) (strict && no_such_day r.set r.month r.day) _ _
      (λ e. inr (refl, (both strict _ e).0))
      (λ n. by_if (Answered strict) (not (time_in_range hour (minute_of f) (second_of f) us)) _ _ (λ e. refused strict FieldOverflow)
      (λ t. by_if (λ z. Answered strict (with_offset f r hour us z)) (offset_in_range f) (Ok (offset_of f)) (Err OffsetRange)
      (in_range_of (passed _ d) n (passed _ t)) (λ o. refused strict OffsetRange))))

-- each step of the definition, on what the one before left
module _ (strict : Bool) (f : Fields) (few : Within 0 6 (get f ff)) where
  then_moment_lem : (r : Days) (hour : ℤ) (v : Result ℤ Refusal) → Marked r → Answered strict (then_moment strict f r hour v)
  then_moment_lem r hour (Err why) m = refused strict why
  then_moment_lem r hour (Ok us) m = checked_answered strict f few r hour us m

  then_micros_lem : (hour : ℤ) (a : Result Days Refusal) → MarkedDate a → Answered strict (then_micros strict f hour a)
  then_micros_lem hour (Err why) m = refused strict why
  then_micros_lem hour (Ok r) m = then_moment_lem r hour (micros_of f) m

  then_date_lem : (v : Result ℤ Refusal) → Answered strict (then_date strict f v)
  then_date_lem (Err why) = refused strict why
  then_date_lem (Ok hour) = then_micros_lem hour (dated_of f) (marked f)

  -- for all fields
  pub moment_answered : Answered strict (moment_of strict f)
  unfolding moment_of
  moment_answered = then_date_lem (clock_hour f)

  pub moment_in_range : {p : Parts} → moment_of strict f ≡ Ok p → InRange strict p
  moment_in_range e = subst (Answered strict) e moment_answered

  then_fields_lem : (v : Result ⊤ Refusal) → Answered strict (then_fields strict v f)
  then_fields_lem (Ok tt) = moment_answered
  then_fields_lem (Err why) = refused strict why

-- for all nodes, templates and inputs, of any bytes and length
module _ (strict : Bool) (ns : List Node) (t s : List ℕ) where
  -- an input that is UTF-8
  fields_answered : Answered strict (then_fields strict (read_all t s ns).verdict (read_all t s ns).fields)
  fields_answered =
      let few = read_precise t s ns in
      then_fields_lem strict (read_all t s ns).fields (record { at = few.at; is = few.is; from = zero-le; to = few.to }) (read_all t s ns).verdict

  -- an input that is not too long
  read_answered : Answered strict (parts_read strict ns t s)
  unfolding parts_read
  read_answered = by_if (Answered strict) (not (well_formed s)) _ _ (λ e. refused strict NotUtf8) (λ e. fields_answered)

pub parts_by_answered : (set : Settings) (ns : List Node) (t s : List ℕ) → Answered set.strict (parts_by set ns t s)
unfolding parts_by
parts_by_answered set ns t s =
    by_if (Answered set.strict) (ltb (input_limit set) (length s)) _ _ (λ e. refused set.strict TooLong)
    (λ e. read_answered set.strict ns t s)

-- by a template
module _ (set : Settings) (t s : List ℕ) where
  pub answered : Answered set.strict (parts_of set t s)
  unfolding parts_of
  answered =
      let P = Answered set.strict in
      by_if P (ltb (template_limit set) (length t) || ltb (input_limit set) (length s)) _ _ (λ e. refused set.strict TooLong)
      (λ e. by_if P (not (well_formed t)) _ _ (λ e. refused set.strict NotUtf8) (λ e. read_answered set.strict (nodes_by set.accents t) t s))

  pub parts_in_range : {p : Parts} → parts_of set t s ≡ Ok p → InRange set.strict p
  parts_in_range e = subst (Answered set.strict) e answered
