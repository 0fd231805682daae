-- `dates::answer_text` meets its contract: at the end nothing is left of the text.
use Rattle.std.proofs.Common.{arith}
use Rattle.line_texts.proofs.Texts.{past_end}
use Rattle.dates.proofs.answer_text.Goals as goal

pub returns : goal.returns
returns g c = past_end c.args.text.now c.loop-s.s.from (omega arith)
