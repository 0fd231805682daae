-- `write_pieces::words::name_length`: the array has the length of each full name.
use Rattle.write_pieces.proofs.Months.{few_letters, full_size}
use Rattle.write_pieces.proofs.words.name_length.Goals as goal

pub returns-then-full : goal.returns-then-full
returns-then-full c =
    let from = c.requires.0 in
    let to = c.requires.1 in
    rw c.from.ensures (λ case. full_size case c.args.month from to c.args.full c.if-full.true, few_letters c.args.month from to)
