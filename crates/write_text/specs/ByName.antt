-- Months by name: each of the six patterns writes the English name of the month, in its own case and length.
use Rattle.std.specs.Prelude.{◌≡◌, refl, List, [], ◌∷◌, map, ℕ, ◌-◌, nat_abs, get_or}
use Prim.Native.String.{String}
use Rattle.base_notation.specs.Text.{utf8}
use Rattle.base_strtol.specs.Decimal.{decimal}
use Rattle.template_patterns.specs.Cases.{case_of}
use Rattle.template_patterns.specs.Patterns.{name_of}
use Rattle.template_nodes.specs.Examples.{nodes_compute}
use Rattle.template_nodes.specs.Template.{action}
use Rattle.template_nodes.specs.declared.Node.{Node}
use Rattle.write_pieces.specs.Moment.{moment}
use Rattle.write_pieces.specs.Pieces.{number_of, piece_of, piece_text}
use Rattle.write_pieces.specs.declared.Moment.{Moment}
use Rattle.write_text.specs.Text.{node_text, nodes_text, text_of}

-- a pattern with this name writes that of the twelve texts which is the month's, in every template, at every moment
abbrev pub Names : String → List String → Type 0
Names name months =
    (t : List ℕ) (m : Moment) (n : Node) → n.kind ≡ action → name_of n.pattern ≡ utf8 name
    → node_text t m n ≡ get_or (map utf8 months) (nat_abs m.month - 1) []

-- the three cases of full names, and the three of short ones
pub record ByName : Type 0 where
  pub title : Names "Month" ("January" ∷ "February" ∷ "March" ∷ "April" ∷ "May" ∷ "June" ∷ "July" ∷ "August" ∷ "September" ∷ "October" ∷ "November" ∷ "December" ∷ [])
  pub small : Names "month" ("january" ∷ "february" ∷ "march" ∷ "april" ∷ "may" ∷ "june" ∷ "july" ∷ "august" ∷ "september" ∷ "october" ∷ "november" ∷ "december" ∷ [])
  pub capitals : Names "MONTH" ("JANUARY" ∷ "FEBRUARY" ∷ "MARCH" ∷ "APRIL" ∷ "MAY" ∷ "JUNE" ∷ "JULY" ∷ "AUGUST" ∷ "SEPTEMBER" ∷ "OCTOBER" ∷ "NOVEMBER" ∷ "DECEMBER" ∷ [])
  pub short_title : Names "Mon" ("Jan" ∷ "Feb" ∷ "Mar" ∷ "Apr" ∷ "May" ∷ "Jun" ∷ "Jul" ∷ "Aug" ∷ "Sep" ∷ "Oct" ∷ "Nov" ∷ "Dec" ∷ [])
  pub short_small : Names "mon" ("jan" ∷ "feb" ∷ "mar" ∷ "apr" ∷ "may" ∷ "jun" ∷ "jul" ∷ "aug" ∷ "sep" ∷ "oct" ∷ "nov" ∷ "dec" ∷ [])
  pub short_capitals : Names "MON" ("JAN" ∷ "FEB" ∷ "MAR" ∷ "APR" ∷ "MAY" ∷ "JUN" ∷ "JUL" ∷ "AUG" ∷ "SEP" ∷ "OCT" ∷ "NOV" ∷ "DEC" ∷ [])

-- a textbook's date; all six beside each other; beside digits and a literal that goes on like a name
pub worked
    : (text_of (utf8 "DD FMMonth YYYY") (moment 2024 5 5 0 0 0 0) ≡ utf8 "05 May 2024")
    × (text_of (utf8 "FMMonthfmmonthFMMONTHMonmonMON") (moment 2024 6 5 0 0 0 0) ≡ utf8 "JunejuneJUNEJunjunJUN")
    × (text_of (utf8 "DDMonYYYYMon\"ch\"") (moment 2024 3 5 0 0 0 0) ≡ utf8 "05Mar2024March")
unfolding text_of nodes_text node_text piece_of case_of piece_text number_of decimal nodes_compute
worked = (refl, refl, refl)
