-- Lines cut at the first TAB, and the text of a moment. Assumes nothing.
-- `too_long`, `cut_at`, `uncut`: the answer to a line that is too long, has a TAB, or has none.
-- `counted_within`: no more bytes count than the line has.
-- `text_within`, `text_written`, `text_unwritten`: what is written is within 512 bytes and is the answer; else the
-- report is.
use Rattle.std.specs.Prelude.{Err, Ok, Result}
use mathlib.Core.Path.{◌≡◌, ◌∙◌, sym}
use mathlib.Core.List.{List, []}
use Prim.Native.Nat.{ℕ, ◌+◌, ◌-◌, ◌≤◌, ◌<◌}
use native.Mathlib.Omega.{arith}
use borrow.Author.Tests.{le-ltb, lt-ltb}
use lib.Dec.{eqb}
use lib.ListN.{length, take, drop, length-drop, drop_of_length-le}
use lib.Seq.{take_all, take_at}
use Rattle.base_notation.proofs.Cases.{by_if}
use Rattle.base_notation.specs.Text.{byte_at}
use Rattle.write_pieces.specs.declared.Moment.{Moment}
use Rattle.base_settings.specs.Limits.{pages}
use Rattle.base_settings.specs.declared.Settings.{Settings}
use Rattle.write_text.specs.Report.{unwritten_report}
use Rattle.write_text.specs.Text.{text_of}
use Rattle.write_text.specs.Writer.{Wrote, buffer_after, written_to}
use Rattle.write_text.specs.declared.Unwritten.{Unwritten}
use Rattle.write_text.proofs.Room.{to_measured}
use Rattle.line_buffers.specs.Input.{before, Found}
use Rattle.line_answers.specs.Items.{item, report_text}
use Rattle.line_answers.specs.Answers.{accepted, text_answer}
use Rattle.line_answers.specs.Moments.{moment_of}
use Rattle.line_answers.specs.Lines.{counted, pair_answer, too_long_answer, whole_answer, without_return}
use Rattle.line_answers.specs.declared.Mode.{Mode}
use Rattle.line_answers.specs.declared.Mode.TheVariants.{Parts, Instant, Date, Write}

module _ (mode : Mode) (line : List ℕ) where
  pub too_long : 769 < length line → whole_answer mode line ≡ too_long_answer
  unfolding whole_answer
  too_long h = rw (lt-ltb 769 (length line) h)

  module _ (cut : ℕ) (short : length line ≤ 769) (found : Found line 0 9 cut) where
    cut_is : before 9 line ≡ cut
    cut_is = omega (arith, found.is)

    pub cut_at : cut < length line → whole_answer mode line ≡ pair_answer mode (take (cut - 0) line) (take (length line - (cut + 1)) (drop (cut + 1) line))
    unfolding whole_answer
    cut_at h =
        let whole : cut - 0 ≡ cut = omega arith in
        rw (le-ltb 769 (length line) short, cut_is, whole, take_all (length line - (cut + 1)) (drop (cut + 1) line) (omega (arith, length-drop (cut + 1) line)))

    pub uncut : length line ≤ cut → whole_answer mode line ≡ pair_answer mode line []
    unfolding whole_answer
    uncut h =
        rw (le-ltb 769 (length line) short, cut_is, take_all cut line h, drop_of_length-le line {i = cut + 1} (omega arith))

pub counted_within : (mode : Mode) (line : List ℕ) → counted mode line ≤ length line
unfolding counted without_return
counted_within Parts line = omega arith
counted_within Instant line = omega arith
counted_within Date line = omega arith
counted_within Write line =
    by_if (λ (n : ℕ). n ≤ length line) (eqb (byte_at line (length line - 1)) 13) (length line - 1) (length line) (λ e. omega arith) (λ e. omega arith)

module _ {set : Settings} {t after_text : List ℕ} {m : Moment} {buffer : List ℕ} {r : (Result ℕ Unwritten)} (own : set ≡ pages) (room : length buffer ≡ 512)
    (w : Wrote set t m buffer after_text r) where
  answer_is : r ≡ written_to pages t m 512
  answer_is = rw (own, room) at w.is

  pub text_within : (n : ℕ) → r ≡ Ok n → (n ≡ length (text_of t m)) × (n ≤ 512)
  text_within n e = to_measured 512 pages t m n (sym answer_is ∙ e)

  -- the moment is that of the line
  module _ (s : List ℕ) (moment_is : m ≡ moment_of s) where
    pub text_written : (n : ℕ) → r ≡ Ok n → pair_answer Write t s ≡ accepted (item (take (n - 0) after_text))
    unfolding pair_answer text_answer
    text_written n e =
        let whole : n - 0 ≡ n = omega arith in
        let after_is : after_text ≡ buffer_after (Ok n) (text_of t m) buffer = rw e at w.buffer in
        rw (← moment_is, sym answer_is ∙ e, whole, after_is, take_at (text_of t m) (drop n buffer) n (sym (text_within n e).0))

    pub text_unwritten : (why : Unwritten) → r ≡ Err why → pair_answer Write t s ≡ report_text (unwritten_report why)
    unfolding pair_answer text_answer
    text_unwritten why e = rw (← moment_is, sym answer_is ∙ e)
