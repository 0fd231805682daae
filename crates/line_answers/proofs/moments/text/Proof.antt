-- `line_answers::moments::text` meets its contract: what is at the front of the buffer is the text. Assumes nothing.
use mathlib.Core.Path.{◌≡◌, refl}
use Prim.Native.Nat.{◌-◌}
use native.Mathlib.Omega.{arith}
use borrow.Author.Rules.{rules}
use lib.ListN.{length, length-take}
use Rattle.base_settings.specs.Limits.{pages}
use Rattle.line_answers.proofs.Cuts.{text_within, text_written, text_unwritten}
use Rattle.line_answers.proofs.moments.text.Statement.{statement}
use Rattle.line_answers.proofs.moments.text.Tie as tie

-- the settings are those of the exercise pages
settings_are : (c : tie.After-write) → c.pages.result ≡ pages
settings_are c = c.pages.ensures

-- the text is no longer than its buffer
slice_bounds-put_text-end : tie.Need-slice_bounds-put_text-end
slice_bounds-put_text-end c =
    let at_length = c in
    let after_write = at_length.before.before in
    let size : length after_write.write.new.out ≡ 512 = search rules in
    omega (arith, text_within (settings_are after_write) refl after_write.write.ensures _ at_length.in-Ok.is, size)

put_text-requires : tie.Need-put_text-requires
put_text-requires c κs =
    let at_length = c.before.before in
    let after_write = at_length.before.before in
    let buffer = after_write.write.new.out in
    let size : length buffer ≡ 512 = search rules in
    omega (arith, length-take (at_length.in-Ok.len - 0) buffer, size)

-- a text
returns : tie.Need-returns-in-Ok
returns c =
    let after_put = c.before.before in
    let at_length = after_put.before.before.before in
    let after_write = at_length.before.before in
    let moment_is = after_write.moment_of.ensures in
    rw (text_written (settings_are after_write) refl after_write.write.ensures _ moment_is _ at_length.in-Ok.is) after_put.put_text.ensures

-- a refusal
returns-2 : tie.Need-returns-in-Err
returns-2 c =
    let after_put = c.before.before in
    let after_report = after_put.before.before in
    let at_refusal = after_report.before in
    let after_write = at_refusal.before.before in
    let moment_is = after_write.moment_of.ensures in
    rw (text_unwritten (settings_are after_write) refl after_write.write.ensures _ moment_is _ at_refusal.in-Err.is)
    (rw after_report.report_of.ensures at after_put.put_report.ensures)

pub text_spec : {M : Type 1} → statement M
text_spec =
    tie.close
    (tie.spec
    (λ c κs. search rules)
    (λ c κs. search rules)
    (λ c. search rules)
    (λ c κs. search rules)
    (λ c. search rules)
    (λ c. search rules)
    (λ c. search rules)
    slice_bounds-put_text-end
    put_text-requires
    (λ c. search rules)
    (λ c κs. search rules)
    (λ c κs. search rules)
    (λ c. search rules)
    returns
    (λ c. search rules)
    returns-2)
