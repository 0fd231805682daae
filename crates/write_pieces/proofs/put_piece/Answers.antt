-- `write_pieces::put_piece`: what each arm puts is the piece's text; where there is no piece nothing is put.
use Rattle.std.proofs.Common.{length, arith, ap, sym, rules}
use mir.Syntax.{w32}
use Rattle.write_pieces.specs.Pieces.{found_number}
use Rattle.write_pieces.proofs.Lengths.{dotted_put, found, marker_put, name_put, no_piece, number_put, piece_counted, piece_named, piece_size, piece_small, short_put}
use Rattle.write_pieces.proofs.Moments.{cast, morning, named_month, numbers}
use Rattle.write_pieces.proofs.Puts.{put_nothing, put_same}
use Rattle.write_pieces.proofs.put_piece.Goals as goal

-- there is room for a marker without dots, and it is put
pub put_marker-requires : goal.put_marker-requires
put_marker-requires c =
    let piece = found c.in-Some-Marker.is (rw c.in-Some-Marker.is at c.in-Some-Marker.field-0-is) in
    omega (arith, ap length (marker_put c.args.case c.args.m.moment _ _ (morning c.args.m.moment c.args.m.is_one) piece), c.requires)

pub returns-in-Some-Marker : goal.returns-in-Some-Marker
returns-in-Some-Marker c =
    let piece = found c.in-Some-Marker.is (rw c.in-Some-Marker.is at c.in-Some-Marker.field-0-is) in
    put_same (marker_put c.args.case c.args.m.moment _ _ (morning c.args.m.moment c.args.m.is_one) piece) c.put_marker.ensures

-- a marker with dots
pub put_marker-requires-in-Some-DottedMarker : goal.put_marker-requires-in-Some-DottedMarker
put_marker-requires-in-Some-DottedMarker c =
    let piece = found c.in-Some-DottedMarker.is (rw c.in-Some-DottedMarker.is at c.in-Some-DottedMarker.field-0-is) in
    omega (arith, ap length (dotted_put c.args.case c.args.m.moment _ _ (morning c.args.m.moment c.args.m.is_one) piece), c.requires)

pub returns-in-Some-DottedMarker : goal.returns-in-Some-DottedMarker
returns-in-Some-DottedMarker c =
    let piece = found c.in-Some-DottedMarker.is (rw c.in-Some-DottedMarker.is at c.in-Some-DottedMarker.field-0-is) in
    put_same (dotted_put c.args.case c.args.m.moment _ _ (morning c.args.m.moment c.args.m.is_one) piece) c.put_marker-in-Some-DottedMarker.ensures

-- a full name: there is such a month
pub overflow_cast-m : goal.overflow_cast-m
overflow_cast-m c = cast (numbers _ c.args.m.is_one).month w32 tt

pub put_month-requires : goal.put_month-requires
put_month-requires c =
    let named = named_month c.args.m.moment c.args.m.is_one in
    let piece = found c.in-Some-MonthName.is (rw c.in-Some-MonthName.is at c.in-Some-MonthName.field-0-is) in
    (named.1, named.2, omega (arith, ap length (name_put c.args.case c.args.m.moment _ _ named.0 piece), c.requires))

pub returns-in-Some-MonthName : goal.returns-in-Some-MonthName
returns-in-Some-MonthName c =
    let piece = found c.in-Some-MonthName.is (rw c.in-Some-MonthName.is at c.in-Some-MonthName.field-0-is) in
    put_same (name_put c.args.case c.args.m.moment _ _ (named_month c.args.m.moment c.args.m.is_one).0 piece) c.put_month.ensures

-- a short name
pub overflow_cast-m-in-Some-ShortMonth : goal.overflow_cast-m-in-Some-ShortMonth
overflow_cast-m-in-Some-ShortMonth c = cast (numbers _ c.args.m.is_one).month w32 tt

pub put_month-requires-in-Some-ShortMonth : goal.put_month-requires-in-Some-ShortMonth
put_month-requires-in-Some-ShortMonth c =
    let named = named_month c.args.m.moment c.args.m.is_one in
    let piece = found c.in-Some-ShortMonth.is (rw c.in-Some-ShortMonth.is at c.in-Some-ShortMonth.field-0-is) in
    (named.1, named.2, omega (arith, ap length (short_put c.args.case c.args.m.moment _ _ named.0 piece), c.requires))

pub returns-in-Some-ShortMonth : goal.returns-in-Some-ShortMonth
returns-in-Some-ShortMonth c =
    let piece = found c.in-Some-ShortMonth.is (rw c.in-Some-ShortMonth.is at c.in-Some-ShortMonth.field-0-is) in
    put_same (short_put c.args.case c.args.m.moment _ _ (named_month c.args.m.moment c.args.m.is_one).0 piece) c.put_month-in-Some-ShortMonth.ensures

-- a number: there is room for its digits
pub put_number-requires : goal.put_number-requires
put_number-requires c =
    let piece = c.in-Some.piece in
    let text = ap found_number c.in-Some.is in
    let size = piece_size c.args.case c.args.m.moment _ c.args.m.is_one (piece_small piece) (piece_named piece (search rules)) in
    omega (arith, c.width_of.ensures, size, rw text at c.requires)

pub returns-in-Some : goal.returns-in-Some
returns-in-Some c =
    let counted = piece_counted c.in-Some.piece (search rules) (search rules) (search rules) (search rules) in
    rw c.in-Some.is (put_same (number_put c.args.case c.args.m.moment _ counted _ _ c.width_of.ensures c.number_of.ensures) c.put_number.ensures)

-- none
pub returns-in-None : goal.returns-in-None
returns-in-None c = put_same (sym (no_piece c.args.case c.args.m.moment c.in-None.is)) (put_nothing _ _)
