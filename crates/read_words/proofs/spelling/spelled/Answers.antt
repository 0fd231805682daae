-- `read_words::spelling::spelled`: each byte of the row is the next of the word, another, or a space after it.
use Rattle.std.proofs.Common.{◌≡◌, ◌∙◌, arith, sym}
use Rattle.read_words.specs.FoldOnce.{until_space}
use Rattle.read_words.proofs.Letters.{some_there, none_there, begun, all_same, at_space, other_byte, same_byte}
use Rattle.read_words.proofs.spelling.spelled.Goals as goal

-- the first byte is the same
pub loop-j-init : goal.loop-j-init
loop-j-init c = begun c.args.row.now c.args.start.now (omega arith) c.requires.1 c.requires.2

-- the word ends at a space
pub returns-then-row-j-eq32 : goal.returns-then-row-j-eq32
returns-then-row-j-eq32 c =
    some_there (until_space c.args.row.now) c.args.start.now c.loop-j.j (omega arith)
    (at_space c.args.row.now _ _ (omega arith) c.if-row-j-eq32.true ∙ sym c.loop-j.invariant)

-- another byte is there
pub returns-then-start-j : goal.returns-then-start-j
returns-then-start-j c =
    none_there (until_space c.args.row.now) c.args.start.now
    (other_byte c.args.row.now _ _ (omega arith) c.if-row-j-eq32.false c.if-start-j.true ∙ sym c.loop-j.invariant)

-- the same byte is there: on to the next
pub loop-j-preserved : goal.loop-j-preserved
loop-j-preserved c =
    c.loop-j.invariant ∙ same_byte c.args.row.now _ _ (omega arith) c.if-row-j-eq32.false c.if-start-j.false

-- the word fills its row
pub returns : goal.returns
returns c =
    let all_bytes : c.loop-j.j ≡ 9 = omega arith in
    some_there (until_space c.args.row.now) c.args.start.now 9 (omega arith)
    (sym (all_same _ _ 9 c.requires.0) ∙ sym (rw all_bytes at c.loop-j.invariant))
