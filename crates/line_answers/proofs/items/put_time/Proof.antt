-- `line_answers::items::put_time` meets its contract: the four numbers are put one after the other. Assumes nothing.
use mathlib.Core.List.{append-nil}
use borrow.Author.Rules.{rules}
use Rattle.line_buffers.proofs.Puts.{put_then}
use Rattle.line_answers.proofs.Same.{put_back}
use Rattle.line_answers.proofs.items.put_time.Statement.{statement}
use Rattle.line_answers.proofs.items.put_time.Tie as tie

-- hour, minute, second and microseconds
returns : tie.Need-returns
returns c =
    let after_micros = c.before.before in
    let after_second = after_micros.before.before.before.before in
    let after_minute = after_second.before.before.before.before in
    let after_hour = after_minute.before.before.before.before in
    let fits = after_hour.ranges in
    let hour = put_back fits.hour after_hour.put_int-after_hour.ensures in
    let minute = put_back fits.minute after_minute.put_int-after_minute.ensures in
    let second = put_back fits.second after_second.put_int-after_second.ensures in
    let micros = put_back fits.micros after_micros.put_int.ensures in
    rw append-nil (put_then _ _ hour (put_then _ _ minute (put_then _ _ second micros)))

pub put_time_spec : {M : Type 1} → statement M
put_time_spec =
    tie.close
    (tie.spec
    (λ c κs. search rules)
    (λ c κs. search rules)
    (λ c κs. search rules)
    (λ c κs. search rules)
    (λ c. search rules)
    returns)
