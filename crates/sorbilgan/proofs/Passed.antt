-- A moment's numbers as they are passed.
-- `moment_passed`: each fits 32 bits, so the moment of what is passed is the moment. Assumes nothing.
use mathlib.Core.Path.{◌≡◌}
use lib.IntN.{ℤ}
use mir.Facts.{to_z-of_z}
use mir.Syntax.{w32}
use mir.Val.{SFits, to_z, of_z}
use Rattle.write_pieces.specs.Moment.{seven_numbers}

-- an i32 in its bits
abbrev passed : ℤ → ℤ
passed z = to_z w32 (of_z w32 z)

pub moment_passed : {y mo d h mi s us : ℤ} → SFits w32 y → SFits w32 mo → SFits w32 d → SFits w32 h → SFits w32 mi → SFits w32 s → SFits w32 us
    → seven_numbers (passed y) (passed mo) (passed d) (passed h) (passed mi) (passed s) (passed us) ≡ seven_numbers y mo d h mi s us
moment_passed fy fmo fd fh fmi fs fus = λ i.
    seven_numbers (to_z-of_z fy i) (to_z-of_z fmo i) (to_z-of_z fd i) (to_z-of_z fh i) (to_z-of_z fmi i) (to_z-of_z fs i) (to_z-of_z fus i)
