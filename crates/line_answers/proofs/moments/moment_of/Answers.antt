-- `line_answers::moments::moment_of`: each number is the one at its place.
use Rattle.std.proofs.Common.{◌∙◌, get_or, pos, rules}
use mir.Facts.{to_z-of_z}
use mir.Syntax.{w32}
use mir.Val.{SFits}
use Rattle.write_pieces.specs.Moment.{seven_numbers}
use Rattle.line_answers.specs.Moments.{moment_of}
use Rattle.line_answers.proofs.moments.moment_of.Goals as goal

pub returns : goal.returns
unfolding moment_of
returns c =
    let seven = c.seven_of-v.result in
    let year : SFits w32 (get_or seven 0 (pos 0)) = search rules in
    let month : SFits w32 (get_or seven 1 (pos 0)) = search rules in
    let day : SFits w32 (get_or seven 2 (pos 0)) = search rules in
    let hour : SFits w32 (get_or seven 3 (pos 0)) = search rules in
    let minute : SFits w32 (get_or seven 4 (pos 0)) = search rules in
    let second : SFits w32 (get_or seven 5 (pos 0)) = search rules in
    let micros : SFits w32 (get_or seven 6 (pos 0)) = search rules in
    c.seven_numbers.ensures
    ∙ rw (← c.seven_of-v.ensures)
    (λ i. seven_numbers (to_z-of_z year i) (to_z-of_z month i) (to_z-of_z day i) (to_z-of_z hour i) (to_z-of_z minute i) (to_z-of_z second i) (to_z-of_z micros i))
