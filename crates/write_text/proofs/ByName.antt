-- Each of the six patterns writes the name of the month. Assumes nothing.
-- `by_name`: in every template and at every moment; a pattern's piece and case follow from its name.
use mathlib.Core.Path.{◌≡◌, ◌∙◌, refl, sym}
use mathlib.Core.Bool.{Bool, true, false}
use mathlib.Core.List.{List, [], map}
use Prim.Native.Nat.{ℕ, ◌-◌}
use Prim.Native.String.{String}
use lib.IntN.{nat_abs}
use lib.ListN.{get_or, get_or-map}
use Rattle.base_notation.specs.Choice.{when◌then◌else◌}
use Rattle.base_notation.specs.Text.{utf8}
use Rattle.template_nodes.specs.Template.{action}
use Rattle.template_nodes.specs.declared.Node.{Node}
use Rattle.template_patterns.specs.Cases.{case_in, case_of}
use Rattle.template_patterns.specs.Patterns.{name_of}
use Rattle.template_patterns.specs.declared.Case.{Case}
use Rattle.template_patterns.specs.declared.Case.TheVariants.{Capitals, Small, Title}
use Rattle.write_pieces.specs.Pieces.{month_name, piece_named, piece_of, piece_text, rows, short_month}
use Rattle.write_pieces.specs.Words.{in_case, month_names, month_text}
use Rattle.write_pieces.specs.declared.Moment.{Moment}
use Rattle.write_text.specs.ByName.{ByName}
use Rattle.write_text.specs.Text.{node_text}
use Rattle.write_text.proofs.Lengths.{action_text}

-- the text of a name's piece
month_piece : (case : Case) (full : Bool) (m : Moment) → piece_text (when full then month_name else short_month) case m ≡ month_text case full (nat_abs m.month)
unfolding piece_text
month_piece case true m = refl
month_piece case false m = refl

-- the names by their pattern's name
own : (name : String) (case : Case) (full : Bool) → case_in (utf8 name) ≡ case → piece_named (utf8 name) rows ≡ (when full then month_name else short_month)
    → (t : List ℕ) (m : Moment) (n : Node) → n.kind ≡ action → name_of n.pattern ≡ utf8 name
    → node_text t m n ≡ get_or (map (in_case case) (month_names full)) (nat_abs m.month - 1) []
unfolding case_of piece_of
own name case full c p t m n e q =
    action_text t m n e
    ∙ rw (q, c, p) (month_piece case full m)
    ∙ sym (get_or-map (in_case case) (month_names full) (nat_abs m.month - 1) [])

-- in each case the names are the twelve of the statement, by computing them
pub by_name : ByName
by_name = record {
  title = own "Month" Title true refl refl;
  small = own "month" Small true refl refl;
  capitals = own "MONTH" Capitals true refl refl;
  short_title = own "Mon" Title false refl refl;
  short_small = own "mon" Small false refl refl;
  short_capitals = own "MON" Capitals false refl refl;
}
