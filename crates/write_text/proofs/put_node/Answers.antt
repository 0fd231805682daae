-- `write_text::put_node`: what is put is the piece's text, or the literal's.
use Rattle.std.proofs.Common.{sym}
use Rattle.write_pieces.proofs.Puts.{put_same}
use Rattle.write_text.proofs.Lengths.{action_text, literal_text_lem}
use Rattle.write_text.proofs.put_node.Goals as goal

-- a literal
pub put_literal-requires : goal.put_literal-requires
put_literal-requires c = rw (literal_text_lem c.args.t.now c.args.m.moment c.args.n c.if-n-ne-FN_ACTION.true) at c.requires

pub returns-then-n-ne-FN_ACTION : goal.returns-then-n-ne-FN_ACTION
returns-then-n-ne-FN_ACTION c =
    put_same (sym (literal_text_lem c.args.t.now c.args.m.moment c.args.n c.if-n-ne-FN_ACTION.true)) c.put_literal.ensures

-- a pattern
pub put_piece-requires : goal.put_piece-requires
put_piece-requires c =
    rw (c.piece_of-piece.ensures, c.case_of.ensures)
    (rw (action_text c.args.t.now c.args.m.moment c.args.n c.if-n-ne-FN_ACTION.false) at c.requires)

pub returns : goal.returns
returns c =
    rw (action_text c.args.t.now c.args.m.moment c.args.n c.if-n-ne-FN_ACTION.false, ← c.piece_of-piece.ensures, ← c.case_of.ensures)
    c.put_piece.ensures
