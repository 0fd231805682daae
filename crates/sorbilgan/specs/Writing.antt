-- Writing into a lent buffer: the record of the answer, and the buffer after it.
use Rattle.std.specs.Prelude.{◌≡◌, refl, List, [], ◌∷◌, ℕ, ℤ, pos, length, Err, Ok, Result}
use Rattle.base_settings.specs.declared.Settings.{Settings}
use Rattle.write_text.specs.Report.{unwritten_report}
use Rattle.write_text.specs.Text.{text_of}
use Rattle.write_text.specs.Writer.{buffer_after, text_in, written_in, written_to}
use Rattle.write_pieces.specs.declared.Moment.{Moment}
use Rattle.write_text.specs.declared.Unwritten.TheVariants.{NoRoom}
use Rattle.sorbilgan_records.specs.Records.{Recorded, accepted, value_record}
use Rattle.write_text.specs.declared.Unwritten.{Unwritten}

-- the value is the length of the text
unfoldable pub written_record : Result ℕ Unwritten → List ℤ
written_record (Ok n) = value_record accepted (pos n)
written_record (Err why) = value_record (unwritten_report why) (pos 0)

-- the record and the number are those of the answer w, and `after` is the buffer of the text
pub record RecordedWritten (w : Result ℕ Unwritten) (text before after : List ℕ) (filled : List ℤ) (r : ℕ) : Type 0 where
  pub buffer : after ≡ buffer_after w text before
  pub recorded : Recorded (written_record w) filled r

-- by a template, and by the nodes that the bytes c hold
abbrev pub RecordedWrite : Settings → List ℕ → Moment → List ℕ → List ℕ → List ℤ → ℕ → Type 0
RecordedWrite set t m before = RecordedWritten (written_to set t m (length before)) (text_of t m) before

abbrev pub RecordedWriteBy : Settings → List ℕ → List ℕ → Moment → List ℕ → List ℕ → List ℤ → ℕ → Type 0
RecordedWriteBy set c t m before = RecordedWritten (written_in set c t m (length before)) (text_in c t m) before

-- ten bytes written, and no room for them
pub worked
    : (written_record (Ok 10) ≡ pos 0 ∷ pos 112 ∷ pos 0 ∷ pos 0 ∷ pos 10 ∷ [])
    × (written_record (Err (NoRoom 10)) ≡ pos 21 ∷ pos 112 ∷ pos 10 ∷ pos 0 ∷ pos 0 ∷ [])
unfolding written_record unwritten_report
worked = (refl, refl)
