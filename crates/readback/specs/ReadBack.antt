-- Reading back: what it is for a text to be read as a moment, and what is promised of every full template and moment.
use Rattle.std.specs.Prelude.{◌≡◌, refl, true, false, List, ◌++◌, ℕ, ◌+◌, ◌≤◌, ℤ, pos, nat_abs, length, drop, Err, None, Ok, Result}
use Rattle.base_settings.specs.Accents.{with_accents}
use Rattle.base_settings.specs.Limits.{input_limit, limits, limits_compute, pages, template_limit, with_limits}
use Rattle.base_settings.specs.declared.Settings.{Settings}
use Rattle.base_notation.specs.Text.{encoded, utf8}
use Rattle.base_chars.specs.Utf8.{sequence, well_formed_after}
use Rattle.base_refusals.specs.declared.Refusal.TheVariants.{TooLong}
use Rattle.base_strtol.specs.Decimal.{decimal}
use Rattle.template_nodes.specs.Examples.{nodes_compute}
use Rattle.template_nodes.specs.Joined.{has_lone_mark, none_alone}
use Rattle.template_patterns.specs.Cases.{case_of}
use Rattle.moment_date.specs.Dates.{all_bits, date_computes}
use Rattle.moment_time.specs.Time.{time_computes}
use Rattle.read_input.specs.Examples.{reading_computes}
use Rattle.moment_instants.specs.ByTemplate.{timestamp_of, date_of}
use Rattle.moment_instants.specs.Plain.{days_since_1970, micros_since_1970}
use Rattle.moment_parts.specs.Parts.{checked_moment, moment_of as parts_moment, parts_of, parts_read, refused_by}
use Rattle.moment_parts.specs.declared.Parts.{Parts}
use Rattle.write_text.specs.Full.{are_full, is_full, pieces, times}
use Rattle.write_pieces.specs.Moment.{is_moment, moment}
use Rattle.write_pieces.specs.Pieces.{number_of, piece_of, piece_text}
use Rattle.write_text.specs.Text.{node_text, nodes_text, text_of}
use Rattle.write_text.specs.Writer.{buffer_after, first_unwritten, written_to}
use Rattle.write_pieces.specs.declared.Moment.{Moment}
use Rattle.readback.specs.declared.Again.{Again}
use Rattle.write_text.specs.declared.Unwritten.{Unwritten}

-- the parts of a moment: its seven numbers, precision 0, no offset, and all three marks
abbrev pub parts_in : Moment → Parts
parts_in m = record {
  year = m.year;
  month = m.month;
  day = m.day;
  hour = m.hour;
  minute = m.minute;
  second = m.second;
  micros = m.micros;
  precision = pos 0;
  offset = None;
  marks = all_bits;
}

-- its microseconds and its days since 1970-01-01
abbrev pub days_of : Moment → ℤ
days_of m = days_since_1970 (nat_abs m.year) (nat_abs m.month) (nat_abs m.day)

abbrev pub micros_of : Moment → ℤ
micros_of m =
    micros_since_1970 (nat_abs m.year) (nat_abs m.month) (nat_abs m.day) (nat_abs m.hour) (nat_abs m.minute) (nat_abs m.second) (nat_abs m.micros)

-- a text is read, by a template and for a caller with settings, as a moment
pub record ReadAs (set : Settings) (t text : List ℕ) (m : Moment) : Type 0 where
  pub parts : parts_of set t text ≡ Ok (parts_in m)
  pub instant : timestamp_of set t text ≡ Ok (micros_of m)
  pub day : date_of set t text ≡ Ok (days_of m)

-- what is promised of a full template and a moment m
pub record Back (set : Settings) (t : List ℕ) (m : Moment) : Type 0 where
  -- a buffer at least as long as the text, whatever it holds: the text is written, and every byte after it stays
  pub written : (before : List ℕ) → length (text_of t m) ≤ length before
      → (written_to set t m (length before) ≡ Ok (length (text_of t m)))
      × (buffer_after (written_to set t m (length before)) (text_of t m) before ≡ text_of t m ++ drop (length (text_of t m)) before)
  -- the text is at most six bytes longer than the template
  pub longer : length (text_of t m) ≤ length t + 6
  -- and within the caller's limit of an input
  pub within : length (text_of t m) ≤ input_limit set
  -- another moment has the same text exactly where it is the same moment
  pub same : (n : Moment) → is_moment n ≡ true → (text_of t m ≡ text_of t n → m ≡ n) × (m ≡ n → text_of t m ≡ text_of t n)
  -- the text is read as the moment that it was written from
  pub read : ReadAs set t (text_of t m) m

-- a caller whose texts can be read back: the input's limit is at least six bytes above the template's
abbrev pub ReadsBack : Settings → Type 0
ReadsBack set = template_limit set + 6 ≤ input_limit set

-- a template whose texts can be read back: in the accents mode no mark of it counts alone
abbrev pub MarksJoined : Settings → List ℕ → Type 0
MarksJoined set t = set.accents ≡ true → none_alone t ≡ true

-- reading back, for every such caller, every such full template and every moment
abbrev pub EveryBack : Type 0
EveryBack = (set : Settings) → ReadsBack set → (t : List ℕ) (m : Moment) → is_full set t ≡ true → MarksJoined set t → is_moment m ≡ true → Back set t m

-- what writing and reading back answers: the three answers to the text, or why nothing was written
abbrev pub read_again : Settings → List ℕ → List ℕ → Result ℕ Unwritten → Result Again Unwritten
read_again set t text (Ok n) = Ok (record { length = n; parts = parts_of set t text; instant = timestamp_of set t text; day = date_of set t text })
read_again set t text (Err why) = Err why

-- the same, by settings, a template, a moment and the length of the buffer
unfoldable pub again_of : Settings → List ℕ → Moment → ℕ → Result Again Unwritten
again_of set t m room = read_again set t (text_of t m) (written_to set t m room)

-- r is the answer, and `after` the buffer. Of such a full template, a moment and a buffer that is long enough, the
-- answer is the text's length and the moment, by all three answers
pub record WroteAndRead (set : Settings) (t : List ℕ) (m : Moment) (before after : List ℕ) (r : Result Again Unwritten) : Type 0 where
  pub is : r ≡ again_of set t m (length before)
  pub buffer : after ≡ buffer_after (written_to set t m (length before)) (text_of t m) before
  pub back : ReadsBack set → is_full set t ≡ true → MarksJoined set t → is_moment m ≡ true → length (text_of t m) ≤ length before
      → (r ≡ Ok (record { length = length (text_of t m); parts = Ok (parts_in m); instant = Ok (micros_of m); day = Ok (days_of m) }))
      × (after ≡ text_of t m ++ drop (length (text_of t m)) before) × Back set t m

-- six bytes are reached: 20 of the template make 26 in September
abbrev pub joined : List ℕ
joined = utf8 "YYYYFMMonthDDSSSSSUS"

abbrev pub september : Moment
september = moment 2024 9 5 0 0 1 7

pub worked : (text_of joined september ≡ utf8 "2024September0500001000007") × (length joined ≡ 20) × (length (text_of joined september) ≡ 26)
unfolding text_of nodes_text node_text piece_of case_of piece_text number_of decimal nodes_compute
worked = (refl, refl, refl)

-- so five bytes between the limits are not enough: for a caller with limits of 20 and 25 this template is full and the
-- text is written, but it is refused as too long; with 26 it is read
abbrev pub SixNeeded : Type 0
SixNeeded =
    let caller : ℕ → Settings = λ input. with_limits (limits 20 input) pages in
    let text = text_of joined september in
    (is_full (caller 25) joined ≡ true) × (is_moment september ≡ true) × (written_to (caller 25) joined september 26 ≡ Ok 26)
    × (parts_of (caller 25) joined text ≡ refused_by TooLong) × (parts_of (caller 26) joined text ≡ Ok (parts_in september))

pub six_needed : SixNeeded
unfolding is_full are_full times pieces first_unwritten is_moment written_to parts_of parts_read limits_compute text_of nodes_text node_text piece_of case_of piece_text number_of decimal parts_moment checked_moment well_formed_after sequence reading_computes time_computes date_computes
six_needed = (refl, refl, refl, refl, refl)

-- a mark right after a quote counts alone, so what is written is not read back in the accents mode: the letter before
-- the mark takes it, the literal of the mark takes the first digit of the year, and the year is 24. Without the mode it
-- is read
abbrev pub lone_mark : List ℕ
lone_mark = utf8 "US SSSSS DD Mon\"a\"" ++ encoded 0x301 ++ utf8 "YYYY"

abbrev pub january : Moment
january = moment 2024 1 5 0 0 0 0

abbrev pub JoinedNeeded : Type 0
JoinedNeeded =
    let accents : Settings = with_accents true pages in
    let text = text_of lone_mark january in
    (is_full accents lone_mark ≡ true) × (none_alone lone_mark ≡ false) × (text ≡ utf8 "000000 00000 05 Jana" ++ encoded 0x301 ++ utf8 "2024")
    × (parts_of accents lone_mark text ≡ Ok (parts_in (moment 24 1 5 0 0 0 0))) × (parts_of pages lone_mark text ≡ Ok (parts_in january))

pub joined_needed : JoinedNeeded
unfolding has_lone_mark is_full are_full times pieces first_unwritten parts_of parts_read limits_compute text_of nodes_text node_text piece_of case_of piece_text number_of decimal parts_moment checked_moment well_formed_after sequence reading_computes time_computes date_computes
joined_needed = (refl, refl, refl, refl, refl)
