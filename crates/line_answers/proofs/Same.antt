-- What is put as one text is put as another that is the same. Assumes nothing.
-- `answered_as`: an answer by an equation of its text. `put_back`: a number that is read back from its bits.
use mathlib.Core.Path.{◌≡◌}
use mathlib.Core.List.{List}
use Prim.Native.Nat.{ℕ}
use lib.IntN.{ℤ}
use mir.Facts.{to_z-of_z}
use mir.Syntax.{Width}
use mir.Val.{SFits, to_z, of_z}
use Rattle.line_buffers.specs.Decimal.{decimal}
use Rattle.line_buffers.specs.Output.{Put}
use Rattle.line_answers.specs.Items.{item}
use Rattle.line_answers.specs.Lines.{Answered}

pub answered_as : {l x y l' : List ℕ} {at r : ℕ} → x ≡ y → Answered l at x l' r → Answered l at y l' r
answered_as e a = rw e at a

pub put_back : {w : Width} {z : ℤ} {l l' : List ℕ} {at r : ℕ} → SFits w z → Put l at (item (decimal (to_z w (of_z w z)))) l' r → Put l at (item (decimal z)) l' r
put_back f p = rw (to_z-of_z f) at p
