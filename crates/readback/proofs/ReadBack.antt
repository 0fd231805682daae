-- The theorem of reading back, `every_back`: for every full template and every moment the text is written, no other
-- moment has it, and it is read as the moment, by every caller whose limits are six bytes apart. Assumes nothing. Two
-- halves, joined here:
-- 1. Reading the text sets exactly what the template's pieces set: `text_is_read`, `fields_read` in ReadText.
--    A template is whole characters and known patterns (Boundaries, Nodes, Known, Sound), and the text spells them
--    (Words, Texts, Spells). A pattern, read at what spells its piece, sets the fields of the piece (FieldSettings,
--    Numbers, PieceNumbers, Actions). A reader may be ahead by spaces and separators, and literals let it (Ahead,
--    Literals). The pieces are those of a date group, a time group and US (Groups), and can be read in any order
--    (Filled, Compatible). So, by induction on the nodes, any input that spells them is read (Simulation).
-- 2. Fields that are set so are read as the moment: `moment_read` in MomentRead. They make the date (GroupFields,
--    FieldSteps, DateGroups) and the time (TimeGroups).
use Rattle.std.specs.Prelude.{Err, Ok, Result}
use mathlib.Core.Path.{◌≡◌, refl, sym, ◌∙◌, ap}
use mathlib.Core.Bool.{Bool, true}
use mathlib.Core.List.{List}
use Prim.Native.Nat.{ℕ, ◌+◌, ◌≤◌}
use native.Mathlib.Omega.{arith}
use borrow.Author.Tests.{le-ltb}
use lib.IntN.{nat_abs}
use lib.ListN.{length}
use Rattle.base_settings.specs.Limits.{template_limit, input_limit}
use Rattle.base_settings.specs.declared.Settings.{Settings}
use Rattle.readback.proofs.GroupFields.{by_month, by_day, by_week, of_24, of_12, by_second}
use Rattle.readback.proofs.MomentRead.{moment_read}
use Rattle.moment_instants.specs.ByTemplate.{timestamp_of, date_of}
use Rattle.moment_instants.proofs.Plain.{plain_parts, instant_is, day_is}
use Rattle.moment_parts.specs.Parts.{moment_of, parts_of, parts_read}
use Rattle.write_text.specs.Full.{times, is_full}
use Rattle.write_pieces.specs.Moment.{moment, is_moment}
use Rattle.readback.proofs.MomentFacts.{IsMoment}
use Rattle.write_pieces.specs.Pieces.{number_of}
use Rattle.write_text.specs.Text.{text_of}
use Rattle.write_text.specs.Writer.{written_to}
use Rattle.write_pieces.specs.declared.Moment.{Moment}
use Rattle.write_pieces.proofs.Moments.{Numbers, numbers}
use Rattle.readback.specs.ReadBack.{EveryBack, MarksJoined, ReadAs, ReadsBack}
use Rattle.readback.proofs.FieldSettings.{own_of, filled_by, expected}
use Rattle.readback.proofs.Groups.{EachFull}
use Rattle.readback.proofs.ReadText.{full_is, text_is_utf8, text_longer, text_is_read, fields_read}
use Rattle.moment_parts.specs.declared.Parts.{Parts}
use Rattle.moment_parts.specs.declared.Unread.{Unread}

-- the numbers of a moment in its ranges, as natural numbers
is_moment_lem : {m : Moment} → Numbers m
    → IsMoment (nat_abs m.year) (nat_abs m.month) (nat_abs m.day) (nat_abs m.hour) (nat_abs m.minute) (nat_abs m.second) (nat_abs m.micros)
is_moment_lem n = record {
  date = n.date;
  hour = omega (arith, n.hour_to);
  minute = omega (arith, n.minute_to);
  second = omega (arith, n.second_to);
  micros = omega (arith, n.micros_to);
}

-- a moment is made of these numbers
plain : (m : Moment) → Numbers m
    → m ≡ moment (nat_abs m.year) (nat_abs m.month) (nat_abs m.day) (nat_abs m.hour) (nat_abs m.minute) (nat_abs m.second) (nat_abs m.micros)
plain m n = λ i. record {
  year = n.year.is i;
  month = n.month.is i;
  day = n.day.is i;
  hour = n.hour.is i;
  minute = n.minute.is i;
  second = n.second.is i;
  micros = n.micros.is i;
}

-- what each date group sets with each time group and US is read as the moment: the fields are computed and compared
each_read : (strict : Bool) {y mo d h mi s us : ℕ} → IsMoment y mo d h mi s us
    → EachFull (λ all. moment_of strict (expected all (moment y mo d h mi s us)) ≡ Ok (plain_parts y mo d h mi s us))
unfolding expected filled_by times own_of number_of
each_read strict is = (
  (
    moment_read is strict by_month of_24 _ (λ k h. refl),
    (moment_read is strict by_month of_12 _ (λ k h. refl), (moment_read is strict by_month of_12 _ (λ k h. refl), (moment_read is strict by_month by_second _ (λ k h. refl), tt))),
  ),
  (
    (
      moment_read is strict by_month of_24 _ (λ k h. refl),
      (moment_read is strict by_month of_12 _ (λ k h. refl), (moment_read is strict by_month of_12 _ (λ k h. refl), (moment_read is strict by_month by_second _ (λ k h. refl), tt))),
    ),
    (
      (
        moment_read is strict by_month of_24 _ (λ k h. refl),
        (moment_read is strict by_month of_12 _ (λ k h. refl), (moment_read is strict by_month of_12 _ (λ k h. refl), (moment_read is strict by_month by_second _ (λ k h. refl), tt))),
      ),
      (
        (
          moment_read is strict by_day of_24 _ (λ k h. refl),
          (moment_read is strict by_day of_12 _ (λ k h. refl), (moment_read is strict by_day of_12 _ (λ k h. refl), (moment_read is strict by_day by_second _ (λ k h. refl), tt))),
        ),
        (
          (
            moment_read is strict by_week of_24 _ (λ k h. refl),
            (moment_read is strict by_week of_12 _ (λ k h. refl), (moment_read is strict by_week of_12 _ (λ k h. refl), (moment_read is strict by_week by_second _ (λ k h. refl), tt))),
          ),
          tt,
        ),
      ),
    ),
  ),
)

module _ (set : Settings) (apart : ReadsBack set) (t : List ℕ) (full : is_full set t ≡ true) (joined : MarksJoined set t) where
  -- a text that is at most six bytes longer than the template is within the limit of an input
  within : {n : ℕ} → n ≤ length t + 6 → n ≤ input_limit set
  within h = omega (arith, (full_is set t full).short)

  module _ {y mo d h mi s us : ℕ} (is : IsMoment y mo d h mi s us) where
    abbrev now : Moment
    now = moment y mo d h mi s us

    -- the parts answer accepts the text with the seven numbers, no offset and all three marks
    text_parts : parts_of set t (text_of t now) ≡ Ok (plain_parts y mo d h mi s us)
    unfolding parts_of parts_read
    text_parts =
        rw (
          le-ltb (template_limit set) (length t) (full_is set t full).short,
          le-ltb (input_limit set) (length (text_of t now)) (within (text_longer set t full joined is)),
          (full_is set t full).text,
          text_is_utf8 set t full joined is,
          (text_is_read set t full joined is).verdict,
        )
        (fields_read set t full joined is (λ f. moment_of set.strict f ≡ Ok (plain_parts y mo d h mi s us)) (each_read set.strict is))

    -- and so do the other two answers
    text_read : ReadAs set t (text_of t now) now
    unfolding timestamp_of date_of
    text_read = record {
      parts = text_parts;
      instant = rw text_parts (instant_is is.date h mi s us is.hour is.minute is.second is.micros);
      day = rw text_parts (day_is is.date h mi s us);
    }

  module _ (m : Moment) (is : is_moment m ≡ true) where
    -- the seven numbers are natural numbers in their ranges
    n : Numbers m
    n = numbers m is

    read_back : ReadAs set t (text_of t m) m
    read_back = rw (plain m n) (text_read (is_moment_lem n))

    longer : length (text_of t m) ≤ length t + 6
    longer = rw (plain m n) (text_longer set t full joined (is_moment_lem n))

    -- a buffer of that length is enough
    all_written : (room : ℕ) → length (text_of t m) ≤ room → written_to set t m room ≡ Ok (length (text_of t m))
    unfolding written_to
    all_written room h =
        rw (
          le-ltb (template_limit set) (length t) (full_is set t full).short,
          (full_is set t full).text,
          (full_is set t full).known,
          is,
          le-ltb room (length (text_of t m)) h,
        )

-- the moment of an answer that accepts
abbrev moment_in : Result Parts Unread → Moment → Moment
moment_in (Ok p) other = record {
  year = p.year;
  month = p.month;
  day = p.day;
  hour = p.hour;
  minute = p.minute;
  second = p.second;
  micros = p.micros;
}
moment_in (Err why) other = other

-- reading back: two moments with the same text are the same, since each is what the text is read as
pub every_back : EveryBack
every_back set apart t m full joined is = record {
  written = λ before h. rw (all_written set apart t full joined m is (length before) h) (refl, refl);
  longer = longer set apart t full joined m is;
  within = within set apart t full joined (longer set apart t full joined m is);
  same = λ n other. (
    λ same_text.
        ap (λ a. moment_in a m)
        (sym (read_back set apart t full joined m is).parts ∙ ap (parts_of set t) same_text ∙ (read_back set apart t full joined n other).parts),
    λ same_moment. ap (text_of t) same_moment,
  );
  read = read_back set apart t full joined m is;
}
