-- Each of the eight markers writes in its own case. Assumes nothing.
-- `own_case`: in every template and at every moment; a pattern's piece and case follow from its name.
use mathlib.Core.Path.{◌≡◌, ◌∙◌, refl}
use mathlib.Core.Bool.{Bool, true, false}
use Prim.Native.String.{String}
use Rattle.base_notation.specs.Choice.{when◌then◌else◌}
use Rattle.base_notation.specs.Text.{utf8}
use Rattle.template_patterns.specs.Cases.{case_in, case_of}
use Rattle.template_patterns.specs.declared.Case.{Case}
use Rattle.template_patterns.specs.declared.Case.TheVariants.{Capitals, Small}
use Rattle.write_pieces.specs.Pieces.{dotted_marker, is_morning, marker, piece_named, piece_of, piece_text, rows}
use Rattle.write_pieces.specs.Words.{marker_text}
use Rattle.write_pieces.specs.declared.Moment.{Moment}
use Rattle.write_text.specs.OwnCase.{OwnCase, Writes}
use Rattle.write_text.proofs.Lengths.{action_text}

-- the text of a marker's piece
marker_piece : (case : Case) (dotted : Bool) (m : Moment) → piece_text (when dotted then dotted_marker else marker) case m ≡ marker_text case dotted (is_morning m)
unfolding piece_text
marker_piece case true m = refl
marker_piece case false m = refl

-- a marker by its name
own : (name early late : String) (case : Case) (dotted : Bool) → case_in (utf8 name) ≡ case → piece_named (utf8 name) rows ≡ (when dotted then dotted_marker else marker)
    → marker_text case dotted true ≡ utf8 early → marker_text case dotted false ≡ utf8 late → Writes name early late
unfolding case_of piece_of
own name early late case dotted c p before after t m n e q =
    action_text t m n e ∙ rw (q, c, p) (marker_piece case dotted m ∙ by (is_morning m))
  where
    by : (morning : Bool) → marker_text case dotted morning ≡ (when morning then utf8 early else utf8 late)
    by true = before
    by false = after

pub own_case : OwnCase
own_case = record {
  capitals = (own "AM" "AM" "PM" Capitals false refl refl refl refl, own "PM" "AM" "PM" Capitals false refl refl refl refl);
  small = (own "am" "am" "pm" Small false refl refl refl refl, own "pm" "am" "pm" Small false refl refl refl refl);
  dotted_capitals = (own "A.M." "A.M." "P.M." Capitals true refl refl refl refl, own "P.M." "A.M." "P.M." Capitals true refl refl refl refl);
  dotted_small = (own "a.m." "a.m." "p.m." Small true refl refl refl refl, own "p.m." "a.m." "p.m." Small true refl refl refl refl);
}
