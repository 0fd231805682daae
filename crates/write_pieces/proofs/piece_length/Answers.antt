-- `write_pieces::piece_length`: the full name of a month is measured by itself, and every other piece is as long as it
-- is wide; where there is none, nothing is.
use Rattle.std.proofs.Common.{length, arith, ◌∙◌, ap, sym, rules}
use mir.Syntax.{w32}
use Rattle.write_pieces.specs.Pieces.{found_number}
use Rattle.write_pieces.proofs.Lengths.{few_bytes, found, name_put, no_piece, piece_named, piece_size, piece_small}
use Rattle.write_pieces.proofs.Moments.{cast, named_month, numbers}
use Rattle.write_pieces.proofs.piece_length.Goals as goal

pub overflow_cast-m : goal.overflow_cast-m
overflow_cast-m c = cast (numbers _ c.args.m.is_one).month w32 tt

-- there is such a month
pub name_length-requires : goal.name_length-requires
name_length-requires c = let named = named_month c.args.m.moment c.args.m.is_one in (named.1, named.2)

-- the full name of a month
pub returns-in-Some-MonthName : goal.returns-in-Some-MonthName
returns-in-Some-MonthName c =
    let month = (named_month c.args.m.moment c.args.m.is_one).0 in
    let measured = c.name_length.ensures in
    let piece = found c.in-Some-MonthName.is (rw c.in-Some-MonthName.is at c.in-Some-MonthName.field-0-is) in
    (λ case. measured.0 case ∙ ap length (name_put case c.args.m.moment (found_number c.args.piece) _ month piece), measured.1)

-- any other piece
pub returns-in-Some : goal.returns-in-Some
returns-in-Some c =
    let width = c.width_of.ensures in
    rw c.in-Some.is (
      λ case. width ∙ piece_size case c.args.m.moment _ c.args.m.is_one (piece_small c.in-Some.piece) (piece_named c.in-Some.piece (search rules)),
      omega (arith, width, few_bytes _ (piece_small c.in-Some.piece)),
    )

-- none
pub returns-in-None : goal.returns-in-None
returns-in-None c = (λ case. sym (ap length (no_piece case c.args.m.moment c.in-None.is)), omega arith)
