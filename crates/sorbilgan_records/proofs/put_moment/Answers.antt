-- `sorbilgan_records::put_moment` meets its contract: each number of the parts keeps its value as an i64.
-- Assumes nothing.
use Rattle.std.proofs.Common.{◌≡◌, ◌∙◌, ap, rules, refl}
use Rattle.std.specs.Prelude.{[], ◌∷◌, ◌++◌, ℤ, pos}
use mir.Facts.{to_z-of_z}
use mir.Syntax.{w32, w64}
use mir.Val.{SFits, to_z, of_z}
use Rattle.calendar_gregorian.proofs.Signed.{wide}
use Rattle.moment_instants.proofs.Seconds.{Ranged, returned}
use Rattle.sorbilgan_records.specs.Records.{offset_entries, parts_record}
use Rattle.sorbilgan_records.proofs.put_moment.Goals.{in-None, in-Some}
use Rattle.sorbilgan_records.proofs.put_moment.Goals as goal

pub returns : goal.returns
unfolding parts_record
returns c =
    let p = c.args.p in
    let fits : Ranged p = search rules in
    let marks_are = returned c.from-11.type_inv c.from-11.ensures in
    let last
    : to_z w64 (of_z w64 c.match-p.zoned.0) ∷ to_z w64 (of_z w64 c.match-p.zoned.1) ∷ to_z w64 (of_z w64 c.from-11.result) ∷ []
    ≡ offset_entries p.offset ++ pos p.marks ∷ [] =
    elim c.match-p.branch [
      | in-None w ↦ simp (w.in-None.is, w.zoned-is, marks_are)
      | in-Some w ↦
          let east : SFits w32 w.in-Some.seconds = search rules in
          let once : to_z w64 (of_z w64 w.from.result) ≡ w.in-Some.seconds = returned w.from.type_inv (w.from.ensures ∙ to_z-of_z east) in
          let twice = ap (λ (z : ℤ). to_z w64 (of_z w64 z)) {y = w.from.result} (returned w.from.type_inv refl) ∙ once in
          rw (w.in-Some.is, w.zoned-is) (λ i. pos 1 ∷ twice i ∷ marks_are i ∷ [])
    ] in
    record {
      is = rw (
        c.from-2.ensures,
        c.from-3.ensures,
        c.from-4.ensures,
        c.from-5.ensures,
        c.from-6.ensures,
        c.from-7.ensures,
        c.from-8.ensures,
        c.from-9.ensures,
        c.from-10.ensures,
        wide fits.year,
        wide fits.month,
        wide fits.day,
        wide fits.hour,
        wide fits.minute,
        wide fits.second,
        wide fits.micros,
        wide fits.precision,
        last,
      );
      number = refl;
    }
