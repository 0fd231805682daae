-- `base_chars::sequence_at` meets its contract: the one row that has the first byte decides. Assumes nothing.
-- The rows are counted from 0.
use Rattle.std.proofs.Common.{sym, arith, lit<}
use Rattle.base_chars.proofs.Sequences.{at_row, row_found, at_low, at_high}
use Rattle.base_chars.proofs.sequence_at.Goals as goal

pub returns-in-0-to-127 : goal.returns-in-0-to-127
returns-in-0-to-127 c = (omega arith, at_row c.args.s.now c.args.at c.requires 0 (lit< tt) (omega arith) (omega arith))

pub returns-in-194-to-223 : goal.returns-in-194-to-223
returns-in-194-to-223 c =
    row_found c.args.s.now c.args.at c.requires 1 (lit< tt) (omega arith) (omega arith) (lit< tt) _ c.sequence_of.ensures

pub returns-in-224 : goal.returns-in-224
returns-in-224 c =
    row_found c.args.s.now c.args.at c.requires 2 (lit< tt) (omega arith) (omega arith) (lit< tt) _ c.sequence_of-in-224.ensures

pub returns-in-225-to-236 : goal.returns-in-225-to-236
returns-in-225-to-236 c =
    row_found c.args.s.now c.args.at c.requires 3 (lit< tt) (omega arith) (omega arith) (lit< tt) _ c.sequence_of-in-225-to-236.ensures

pub returns-in-237 : goal.returns-in-237
returns-in-237 c =
    row_found c.args.s.now c.args.at c.requires 4 (lit< tt) (omega arith) (omega arith) (lit< tt) _ c.sequence_of-in-237.ensures

pub returns-in-238-to-239 : goal.returns-in-238-to-239
returns-in-238-to-239 c =
    row_found c.args.s.now c.args.at c.requires 5 (lit< tt) (omega arith) (omega arith) (lit< tt) _ c.sequence_of-in-238-to-239.ensures

pub returns-in-240 : goal.returns-in-240
returns-in-240 c =
    row_found c.args.s.now c.args.at c.requires 6 (lit< tt) (omega arith) (omega arith) (lit< tt) _ c.sequence_of-in-240.ensures

pub returns-in-241-to-243 : goal.returns-in-241-to-243
returns-in-241-to-243 c =
    row_found c.args.s.now c.args.at c.requires 7 (lit< tt) (omega arith) (omega arith) (lit< tt) _ c.sequence_of-in-241-to-243.ensures

pub returns-in-244 : goal.returns-in-244
returns-in-244 c =
    row_found c.args.s.now c.args.at c.requires 8 (lit< tt) (omega arith) (omega arith) (lit< tt) _ c.sequence_of-in-244.ensures

-- from 0x80 to 0xc1
pub returns-in_default : goal.returns-in_default
returns-in_default c = sym (at_low c.args.s.now c.args.at c.requires (omega arith) (omega arith))

-- from 0xf5 on
pub returns-in_default-first-2 : goal.returns-in_default-first-2
returns-in_default-first-2 c = sym (at_high c.args.s.now c.args.at c.requires (omega arith))
