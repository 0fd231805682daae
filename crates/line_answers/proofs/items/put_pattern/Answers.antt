-- `line_answers::items::put_pattern`: the bytes of a row before its first space are the name.
use Rattle.std.proofs.Common.{◌≡◌, ◌+◌, ◌-◌, ◌*◌, ◌<◌, arith}
use Rattle.line_answers.proofs.Named.{found_named, none_named, some_named}
use Rattle.line_answers.proofs.items.put_pattern.Goals as goal

-- none
pub returns-then-pattern-ge-NO_PATTERN : goal.returns-then-pattern-ge-NO_PATTERN
returns-then-pattern-ge-NO_PATTERN c = rw (none_named _ c.if-pattern-ge-NO_PATTERN.true) c.put_item.ensures

-- a name
pub returns : goal.returns
returns c =
    let k = c.from-from.result in
    let below : k < 112 = omega (arith, c.from-from.ensures) in
    let five : 5 * k + 5 - 5 * k ≡ 5 = omega arith in
    rw (some_named c.args.pattern c.if-pattern-ge-NO_PATTERN.false, ← c.from-from.ensures)
    (rw (found_named k below _ _ _ c.dch_names-names.ensures five c.find-len.ensures) at c.put_item-2.ensures)
