-- The number of each piece. Assumes nothing.
-- `number_small`: it fits the width of its piece, and 32 bits.
-- `number_kept`: what is kept of it in its field is the piece's own number, as FieldSettings has it.
-- `number_stored`: with it in the field, and what else reading a number notes, the fields are as FieldSettings has
-- them.
-- `word_kept`, `word_stored`: the same of a word, by its index in its list.
use mathlib.Core.Path.{◌≡◌, ◌∙◌, refl, ap}
use mathlib.Core.Bool.{Bool, true, false}
use mathlib.Core.List.{[], ◌∷◌}
use Prim.Native.Nat.{ℕ, ◌+◌, ◌-◌, ◌*◌, ◌%◌, ◌^◌, ◌≤◌, ◌<◌}
use native.Mathlib.Omega.{arith}
use lib.IntN.{pos}
use Rattle.base_notation.specs.Choice.{when◌then◌else◌}
use Rattle.calendar_gregorian.specs.Gregorian.{day_number}
use Rattle.calendar_gregorian.specs.IsoWeek.{iso_weekday}
use Rattle.calendar_gregorian.proofs.Dates.{each, length_range, real}
use Rattle.calendar_gregorian.proofs.Ordinal.{ordinal_range}
use Rattle.calendar_gregorian.proofs.Weeks.{week_range, year_range}
use Rattle.read_fields.specs.Fields.{put}
use Rattle.read_numbers.specs.Numbers.{kept, noted}
use Rattle.read_input.specs.Reader.{with_mode}
use Rattle.read_words.specs.Words.{meant, noted_word, kept_word}
use Rattle.read_fields.specs.declared.Fields.{Fields}
use Rattle.base_wrapping.specs.Wrap.{wrap32}
use Rattle.base_wrapping.proofs.Small.{wrap_pos}
use Rattle.write_text.specs.Full.{times}
use Rattle.write_pieces.specs.Moment.{moment}
use Rattle.readback.proofs.MomentFacts.{IsMoment}
use Rattle.write_pieces.specs.Pieces.{width_of, number_of, is_morning}
use Rattle.write_pieces.specs.declared.Moment.{Moment}
use Rattle.readback.proofs.FieldSettings.{settings, own_of, filled_by}
use Rattle.readback.proofs.Known.{task_for, mode_for, index_for}

module _ {y mo d h mi s us : ℕ} (is : IsMoment y mo d h mi s us) where
  abbrev now : Moment
  now = moment y mo d h mi s us

  pub number_small : (p : ℕ) → 1 ≤ p → p ≤ 13 → (number_of p now < 10 ^ width_of p) × (number_of p now < 2 ^ 31)
  unfolding number_of
  number_small =
      let date = is.date in
      let length_of_month = length_range y mo date.month_from date.month_to in
      each (λ p. (number_of p now < 10 ^ width_of p) × (number_of p now < 2 ^ 31)) 1 12
      (omega arith, (omega arith, (omega arith, (omega (arith, ordinal_range date), (omega (arith, year_range date), (omega (arith, week_range (real date)), omega arith))))))

  -- Sunday, 7, is kept as 1, Monday as 2
  day_kept : (j : ℕ) → 1 ≤ j → j ≤ 7 → kept 5 (pos j) 1 ≡ pos (j % 7 + 1)
  unfolding kept wrap32
  day_kept = each (λ j. kept 5 (pos j) 1 ≡ pos (j % 7 + 1)) 1 6 (search depth 20)

  pub number_kept : (p : ℕ) → 1 ≤ p → p ≤ 13 → kept (task_for p).rule (pos (number_of p now)) (width_of p) ≡ pos (own_of p now)
  unfolding kept own_of number_of
  number_kept =
      let j = iso_weekday (day_number y mo d) in
      let sunday : kept 5 (pos j) 1 ≡ pos (j % 7 + 1) = day_kept j (omega arith) (omega arith) in
      let whole : wrap32 (pos (us * 1)) ≡ pos us = wrap_pos (us * 1) (omega arith) ∙ ap pos (omega arith) in
      each (λ p. kept (task_for p).rule (pos (number_of p now)) (width_of p) ≡ pos (own_of p now)) 1 12 (search depth 20)

  pub word_kept : (p : ℕ) → 14 ≤ p → p ≤ 17 → kept_word (task_for p).rule (meant (task_for p).rule (index_for p now)) ≡ own_of p now
  unfolding meant own_of
  word_kept =
      let month : mo - 1 + 1 ≡ mo = omega (arith, is.date.month_from) in
      each (λ p. kept_word (task_for p).rule (meant (task_for p).rule (index_for p now)) ≡ own_of p now) 14 3
      (by (is_morning now), (by (is_morning now), (month, month)))
    where
      by : (t : Bool) → (when t then 0 else 1) % 2 ≡ (when t then 0 else 1)
      by true = refl
      by false = refl

pub number_stored : (m : Moment) (f : Fields) (p : ℕ) → 1 ≤ p → p ≤ 13
    → noted (task_for p).rule (task_for p).operand (put (with_mode (mode_for p) f) (task_for p).field (pos (own_of p m))) ≡ filled_by settings (p ∷ []) m f
unfolding noted filled_by times
number_stored m f =
    each (λ p. noted (task_for p).rule (task_for p).operand (put (with_mode (mode_for p) f) (task_for p).field (pos (own_of p m))) ≡ filled_by settings (p ∷ []) m f) 1 12
    (refl, (refl, (refl, (refl, (refl, (refl, (refl, (refl, (refl, (refl, (refl, (refl, refl))))))))))))

pub word_stored : (m : Moment) (f : Fields) (p : ℕ) → 14 ≤ p → p ≤ 17
    → noted_word (task_for p).rule (put (with_mode (mode_for p) f) (task_for p).field (pos (own_of p m))) ≡ filled_by settings (p ∷ []) m f
unfolding filled_by times
word_stored m f =
    each (λ p. noted_word (task_for p).rule (put (with_mode (mode_for p) f) (task_for p).field (pos (own_of p m))) ≡ filled_by settings (p ∷ []) m f) 14 3
    (refl, (refl, (refl, refl)))
