-- `line_answers::items::put_report`: the number, the pattern and the figures are put one after the other.
use Rattle.std.proofs.Common.{append-nil, rules}
use mir.Facts.{to_z-of_z}
use mir.Syntax.{w8, w64}
use mir.Val.{Fits, SFits}
use Rattle.line_buffers.proofs.Puts.{put_then}
use Rattle.line_answers.specs.Items.{report_text}
use Rattle.line_answers.proofs.Lengths.{report_short}
use Rattle.line_answers.proofs.Same.{put_back}
use Rattle.line_answers.proofs.items.put_report.Goals as goal

pub returns : goal.returns
unfolding report_text
returns c =
    let number_fits : Fits w8 c.args.r.number = search rules in
    let first_fits : SFits w64 c.args.r.first = search rules in
    let second_fits : SFits w64 c.args.r.second = search rules in
    let from_fits : SFits w64 c.from.result = search rules in
    let number = rw (to_z-of_z from_fits, c.from.ensures) at c.put_decimal-number.ensures in
    let first = put_back first_fits c.put_number-first.ensures in
    let second = put_back second_fits c.put_number.ensures in
    record {
      put = rw append-nil (put_then _ _ (put_then _ _ number c.put_pattern-pattern.ensures) (put_then _ _ first second));
      short = report_short _ number_fits first_fits second_fits;
    }
