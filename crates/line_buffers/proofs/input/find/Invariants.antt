-- `line_buffers::input::find` has passed no such byte, and is not past the text's end, unless it began there.
use Rattle.std.proofs.Common.{◌≡◌, ◌+◌, ◌≤◌, max, length, drop}
use Rattle.line_buffers.specs.Input.{before}
use Rattle.line_buffers.proofs.input.find.Given as goal

abbrev pub invariant-loop-i : goal.invariant-loop-i
invariant-loop-i l =
    (l.i ≤ max l.from (length l.s))
    × (l.i + before l.b (drop l.i l.s) ≡ l.from + before l.b (drop l.from l.s))
