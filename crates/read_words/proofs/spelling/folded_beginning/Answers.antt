-- `read_words::spelling::folded_beginning`: one more byte is folded, and at the end as many as are wanted, or as there
-- are.
use Rattle.std.proofs.Common.{◌∙◌, arith}
use Rattle.read_words.proofs.Beginning.{put_next, all_put}
use Rattle.read_words.proofs.spelling.folded_beginning.Goals as goal

pub loop-j-preserved : goal.loop-j-preserved
loop-j-preserved c =
    put_next c.args.s.now c.args.at c.loop-j.j (omega arith) c.loop-j.start c.folded.result (omega arith) c.loop-j.invariant
    c.folded.ensures

pub returns : goal.returns
returns c = c.loop-j.invariant ∙ all_put c.args.s.now c.args.at _ _ c.loop-j.j c.fitting-n.ensures (omega arith)
