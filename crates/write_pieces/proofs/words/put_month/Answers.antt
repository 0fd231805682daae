-- `write_pieces::words::put_month`: the part of the table that is put in the case is the month's name in that case.
use Rattle.write_pieces.proofs.Months.{name_part}
use Rattle.write_pieces.proofs.Puts.{put_same}
use Rattle.write_pieces.proofs.words.put_month.Goals as goal

pub returns : goal.returns
returns c =
    put_same
    (name_part c.args.case c.args.month c.requires.0 c.requires.1 c.args.full _ c.months_full-names.ensures _ (c.name_length.ensures.0 c.args.case))
    c.put_word.ensures
