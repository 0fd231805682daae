-- `sorbilgan::writing::sorbilgan_write_by_with` meets its contract: `put_written` records what `write_by` answers,
-- whose length is within the buffer's and so within 63 bits. Assumes nothing.
use Rattle.std.proofs.Common.{◌∙◌, sym}
use Rattle.std.specs.Prelude.{◌<◌, ◌^◌, length}
use native.Mathlib.Omega.{arith}
use Rattle.write_text.proofs.Room.{in_measured}
use Rattle.sorbilgan.proofs.Passed.{moment_passed}
use Rattle.sorbilgan.proofs.writing.sorbilgan_write_by_with.Goals as goal

-- a text that has room in the buffer
pub put_written-requires : goal.put_written-requires
put_written-requires c n e =
    let room : length c.args.text.now < 2 ^ 63 = omega arith in
    omega (arith, room, (in_measured _ _ _ _ _ n (sym c.write_by.ensures.is ∙ e)).1)

pub returns : goal.returns
returns c =
    let fits = c.ranges in
    let moment_is =
    c.seven_numbers-m.ensures
    ∙ moment_passed fits.year fits.month fits.day fits.hour fits.minute fits.second fits.micros in
    let wrote = rw (moment_is, c.settings_of.ensures) at c.write_by.ensures in
    record { buffer = rw wrote.is at wrote.buffer; recorded = rw wrote.is at c.put_written.ensures }
