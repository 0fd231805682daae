-- The length of a marker. Assumes nothing.
-- `marker_size`: a marker has two bytes, a dotted one four.
use mathlib.Core.Path.{◌≡◌, refl}
use mathlib.Core.Bool.{Bool, true, false}
use lib.ListN.{length}
use Rattle.base_notation.specs.Choice.{when◌then◌else◌}
use Rattle.template_patterns.specs.declared.Case.{Case}
use Rattle.write_pieces.specs.Words.{marker_text}

pub marker_size : (case : Case) (dotted morning : Bool) → length (marker_text case dotted morning) ≡ (when dotted then 4 else 2)
marker_size case true true = refl
marker_size case true false = refl
marker_size case false true = refl
marker_size case false false = refl
