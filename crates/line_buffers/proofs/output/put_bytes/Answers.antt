-- `line_buffers::output::put_bytes` copies what fits of the text; past the buffer's end it copies nothing.
use Rattle.std.proofs.Common.{◌≡◌, ◌+◌, ◌-◌, length, take, sym, arith}
use Rattle.std.proofs.lemmas.List.{length-take-le, take_all}
use Rattle.std.proofs.lemmas.Slice.{put_mid-paste}
use Rattle.line_buffers.proofs.Puts.{sets_paste, put_fitting, put_none}
use Rattle.line_buffers.proofs.output.put_bytes.Goals as goal

pub returns-then-at-out : goal.returns-then-at-out
returns-then-at-out c = put_none c.args.out.now c.args.at c.args.text.now c.if-at-out.true

pub returns : goal.returns
returns c =
    let out = c.args.out.now in
    let text = c.args.text.now in
    let at = c.args.at in
    let n = c.min-n.result in
    let size : length (take n text) ≡ n = length-take-le n text (omega arith) in
    rw (
      put_mid-paste at (at + n - at) out c.copy_from_slice.new.self (take n text) n c.copy_from_slice.ensures.after (omega arith) (sym size),
      sets_paste out (take n text) at n (omega arith) (omega arith),
      take_all n (take n text) (omega arith),
    )
    (put_fitting out at text n c.min-n.ensures)
