-- From the writer's promise of the buffer to that of `write_and_read`. Assumes nothing.
-- `not_written`: where the writer refuses, its refusal is the answer.
-- `room`: the text is within the buffer.
-- `read`: reading as many bytes from the front of the buffer as were written gives the whole promise.
use Rattle.std.specs.Prelude.{Err, Ok, Result}
use mathlib.Core.Path.{◌≡◌, sym, ◌∙◌}
use mathlib.Core.List.{List, ◌++◌}
use Prim.Native.Nat.{ℕ, ◌≤◌}
use native.Mathlib.Omega.{arith}
use lib.ListN.{length, take, drop, length-append}
use lib.Seq.{take-append_seam}
use Rattle.base_settings.specs.declared.Settings.{Settings}
use Rattle.write_text.specs.Text.{text_of}
use Rattle.write_text.specs.Writer.{Wrote, buffer_after, written_to}
use Rattle.write_pieces.specs.declared.Moment.{Moment}
use Rattle.write_text.specs.declared.Unwritten.{Unwritten}
use Rattle.write_text.proofs.Room.{to_measured}
use Rattle.readback.specs.ReadBack.{WroteAndRead, again_of, read_again}
use Rattle.readback.specs.declared.Again.{Again}
use Rattle.readback.proofs.ReadBack.{every_back}

module _ (set : Settings) (t : List ℕ) (m : Moment) {before after : List ℕ} where
  -- the whole promise follows from the answer and the buffer
  promised : (r : Result Again Unwritten) → r ≡ again_of set t m (length before) → after ≡ buffer_after (written_to set t m (length before)) (text_of t m) before
      → WroteAndRead set t m before after r
  unfolding again_of
  promised r answer buffer = record {
    is = answer;
    buffer = buffer;
    back = λ apart full joined is enough.
        let back = every_back set apart t m full joined is in
        let written = back.written before enough in
        (answer ∙ rw (written.0, back.read.parts, back.read.instant, back.read.day), buffer ∙ written.1, back);
  }

  module _ {w : (Result ℕ Unwritten)} (wrote : Wrote set t m before after w) where
    pub not_written : {why : Unwritten} → w ≡ Err why → WroteAndRead set t m before after (Err why)
    unfolding again_of
    not_written {why} refused =
        let as_defined = sym wrote.is ∙ refused in
        promised (Err why) (rw as_defined) (wrote.buffer ∙ rw (as_defined, refused))

    module _ {n : ℕ} (written : w ≡ Ok n) where
      known : n ≡ length (text_of t m)
      known = (to_measured (length before) set t m n (sym wrote.is ∙ written)).0

      after_is : after ≡ text_of t m ++ drop n before
      after_is = wrote.buffer ∙ rw written

      -- the buffer begins with the text
      text_in_front : take n after ≡ text_of t m
      text_in_front = rw (after_is, known) (take-append_seam (text_of t m) _)

      pub room : n ≤ length after
      room = rw after_is (omega (arith, known, length-append (text_of t m) (drop n before)))

      pub read : (r : Result Again Unwritten) → r ≡ read_again set t (take n after) (Ok (length (take n after))) → WroteAndRead set t m before after r
      unfolding again_of
      read r answer =
          let as_defined = sym wrote.is ∙ written in
          promised r (answer ∙ rw (text_in_front, as_defined, known)) (wrote.buffer ∙ rw (as_defined, written))
