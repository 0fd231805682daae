-- `write_pieces::numbers::is_moment`: each test is one of the definition's.
use Rattle.std.proofs.Common.{◌≡◌, ◌∙◌, refl, rules, Bool, true, false, ◌&&◌, ℤ, pos}
use lib.IntN.{nat_abs}
use mir.Facts.{to_z-of_z}
use mir.Syntax.{w32}
use mir.Val.{SFits}
use Rattle.calendar_gregorian.specs.Civil.{length_of}
use Rattle.calendar_gregorian.specs.Gregorian.{is_leap}
use Rattle.base_wrapping.proofs.Fits.{read, returned}
use Rattle.write_pieces.specs.Moment.{is_moment, within}
use Rattle.write_pieces.proofs.numbers.is_moment.Goals as goal
use Rattle.write_pieces.proofs.numbers.is_moment.Goals.{then-in_range, else-in_range, then-in_range-2, else-in_range-2, then-in_range-3, else-in_range-3, then-in_range-4, else-in_range-4}

-- a number of the moment, which fits 32 bits, reads back from its bits as itself
back : (z : ℤ) → SFits w32 z → read z ≡ z
back z fits = to_z-of_z fits

-- six tests, each joined to those before it, are those of the definition
joined : (a b c d e f : Bool) {v1 v2 v3 v4 : Bool} → v1 ≡ (a && b) → v2 ≡ (v1 && c) → v3 ≡ (v2 && d) → v4 ≡ (v3 && e)
    → (v4 && f) ≡ (a && (b && (c && (d && (e && f)))))
joined a b c d e f p q r s = rw (s, r, q, p) (by a b c d e)
  where
    by : (a b c d e : Bool) → (((((a && b) && c) && d) && e) && f) ≡ (a && (b && (c && (d && (e && f)))))
    by false b c d e = refl
    by true false c d e = refl
    by true true false d e = refl
    by true true true false e = refl
    by true true true true e = refl

pub returns-then-in_range-5 : goal.returns-then-in_range-5
unfolding is_moment
returns-then-in_range-5 c =
    let m = c.args.m in
    let year = simp (back m.year (search rules)) at c.in_range.ensures in
    let days = simp (c.pg_is_leap.ensures, back m.year (search rules), back m.month (search rules)) at c.month_length-days.ensures in
    let day : c.if-in_range.value ≡ (c.in_range.result && within (pos 1) (pos (length_of (is_leap (nat_abs m.year)) m.month)) m.day) =
    elim c.if-in_range.branch [
      | then-in_range w ↦ rw (w.value-is, w.if-in_range.true) (simp (back m.day (search rules), returned c.month_length-days.type_inv days) at w.in_range-then-in_range.ensures)
      | else-in_range w ↦ rw (w.value-is, w.if-in_range.false)
    ] in
    let hour : c.if-in_range-2.value ≡ (c.if-in_range.value && within (pos 0) (pos 23) m.hour) =
    elim c.if-in_range-2.branch [
      | then-in_range-2 w ↦ rw (w.value-is, w.if-in_range-2.true) (simp (back m.hour (search rules)) at w.in_range-then-in_range-2.ensures)
      | else-in_range-2 w ↦ rw (w.value-is, w.if-in_range-2.false)
    ] in
    let minute : c.if-in_range-3.value ≡ (c.if-in_range-2.value && within (pos 0) (pos 59) m.minute) =
    elim c.if-in_range-3.branch [
      | then-in_range-3 w ↦ rw (w.value-is, w.if-in_range-3.true) (simp (back m.minute (search rules)) at w.in_range-then-in_range-3.ensures)
      | else-in_range-3 w ↦ rw (w.value-is, w.if-in_range-3.false)
    ] in
    let second : c.if-in_range-4.value ≡ (c.if-in_range-3.value && within (pos 0) (pos 59) m.second) =
    elim c.if-in_range-4.branch [
      | then-in_range-4 w ↦ rw (w.value-is, w.if-in_range-4.true) (simp (back m.second (search rules)) at w.in_range-then-in_range-4.ensures)
      | else-in_range-4 w ↦ rw (w.value-is, w.if-in_range-4.false)
    ] in
    let micros = simp (back m.micros (search rules)) at c.in_range-then-in_range-5.ensures in
    micros ∙ rw c.if-in_range-5.true at (rw year at (joined c.in_range.result _ _ _ _ (within (pos 0) (pos 999999) m.micros) day hour minute second))

pub returns-else-in_range-5 : goal.returns-else-in_range-5
unfolding is_moment
returns-else-in_range-5 c =
    let m = c.args.m in
    let year = simp (back m.year (search rules)) at c.in_range.ensures in
    let days = simp (c.pg_is_leap.ensures, back m.year (search rules), back m.month (search rules)) at c.month_length-days.ensures in
    let day : c.if-in_range.value ≡ (c.in_range.result && within (pos 1) (pos (length_of (is_leap (nat_abs m.year)) m.month)) m.day) =
    elim c.if-in_range.branch [
      | then-in_range w ↦ rw (w.value-is, w.if-in_range.true) (simp (back m.day (search rules), returned c.month_length-days.type_inv days) at w.in_range-then-in_range.ensures)
      | else-in_range w ↦ rw (w.value-is, w.if-in_range.false)
    ] in
    let hour : c.if-in_range-2.value ≡ (c.if-in_range.value && within (pos 0) (pos 23) m.hour) =
    elim c.if-in_range-2.branch [
      | then-in_range-2 w ↦ rw (w.value-is, w.if-in_range-2.true) (simp (back m.hour (search rules)) at w.in_range-then-in_range-2.ensures)
      | else-in_range-2 w ↦ rw (w.value-is, w.if-in_range-2.false)
    ] in
    let minute : c.if-in_range-3.value ≡ (c.if-in_range-2.value && within (pos 0) (pos 59) m.minute) =
    elim c.if-in_range-3.branch [
      | then-in_range-3 w ↦ rw (w.value-is, w.if-in_range-3.true) (simp (back m.minute (search rules)) at w.in_range-then-in_range-3.ensures)
      | else-in_range-3 w ↦ rw (w.value-is, w.if-in_range-3.false)
    ] in
    let second : c.if-in_range-4.value ≡ (c.if-in_range-3.value && within (pos 0) (pos 59) m.second) =
    elim c.if-in_range-4.branch [
      | then-in_range-4 w ↦ rw (w.value-is, w.if-in_range-4.true) (simp (back m.second (search rules)) at w.in_range-then-in_range-4.ensures)
      | else-in_range-4 w ↦ rw (w.value-is, w.if-in_range-4.false)
    ] in
    c.if-in_range-5.false
    ∙ rw c.if-in_range-5.false at (rw year at (joined c.in_range.result _ _ _ _ (within (pos 0) (pos 999999) m.micros) day hour minute second))
