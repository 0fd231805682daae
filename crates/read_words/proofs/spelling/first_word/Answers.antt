-- `read_words::spelling::first_word`: the word of a row is there, or the search goes on with the next row.
use Rattle.std.proofs.Common.{◌≡◌, ◌∙◌, ◌+◌, ◌-◌, ◌*◌, arith, refl, sym}
use Rattle.read_words.specs.FoldOnce.{row_of, word_in}
use Rattle.read_words.proofs.Letters.{length_none, length_some, other_row, word_of_row}
use Rattle.read_words.proofs.Words.{no_space, over, found, next}
use Rattle.read_words.proofs.spelling.first_word.Goals as goal
use Rattle.read_words.proofs.spelling.first_word.Goals.{then-row-first+in_default, else-row-first}

-- no word begins with a space
pub returns-then-first-eq32 : goal.returns-then-first-eq32
returns-then-first-eq32 c list e = no_space _ list c.if-first-eq32.true

pub loop-index-init : goal.loop-index-init
unfolding word_in
loop-index-init c list e = refl

-- the word of the row is there
pub returns-in-Some : goal.returns-in-Some
returns-in-Some c list e =
    let k = c.loop-index.index in
    let in_row = word_of_row c.args.table.now k (9 * k + 9 - 9 * k) (omega arith) in
    let there = length_some (row_of c.args.table.now k) c.args.start.now c.in-Some.len (rw in_row at c.in-Some.ensures) in
    found _ list _ _ c.loop-index-test.true (rw e at there.1) there.0 (c.loop-index.invariant list e)

-- the word is not there, or its first byte is another: on to the next row
pub loop-index-preserved : goal.loop-index-preserved
loop-index-preserved c list e =
    let k = c.loop-index.index in
    let in_row = word_of_row c.args.table.now k (9 * k + 9 - 9 * k) (omega arith) in
    let none = length_none (row_of c.args.table.now k) c.args.start.now in
    let other = other_row c.args.table.now c.args.start.now k (9 * k + 9 - 9 * k) (omega arith) (omega arith) in
    c.loop-index.invariant list e ∙ (elim c.if-row-first.branch [
      | then-row-first+in_default w ↦ next _ list k 0 c.loop-index-test.true (rw e at (none (rw in_row at (sym w.in_default.is ∙ w.spelled.ensures)))) (omega arith)
      | else-row-first w ↦ next _ list k 0 c.loop-index-test.true (rw e at (other w.if-row-first.false)) (omega arith)
    ])

-- all rows are tried
pub returns : goal.returns
returns c list e =
    let all_rows : c.loop-index.index ≡ 12 = omega arith in
    over _ _ (rw all_rows at (c.loop-index.invariant list e))
