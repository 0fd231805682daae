-- Laws of choices and of joined tests. Assumes nothing.
-- `by_if`: what holds of each branch where its test allows it holds of the choice.
-- `both`: where a conjunction passed, both of its tests passed.
-- `neither`: where a disjunction failed, both of its tests failed.
-- `beq-true`: truth values that a test finds the same are the same.
use mathlib.Core.Path.{◌≡◌, refl, sym}
use mathlib.Core.Bool.{Bool, true, false, beq, ◌&&◌, ◌||◌, false≢true}
use Rattle.base_notation.specs.Choice.{when◌then◌else◌}

pub by_if : {A : Type 0} (P : A → Type 0) (b : Bool) (x y : A) → (b ≡ true → P x) → (b ≡ false → P y) → P (when b then x else y)
by_if P true x y f g = f refl
by_if P false x y f g = g refl

pub both : (a b : Bool) → (a && b) ≡ true → (a ≡ true) × (b ≡ true)
both true b e = (refl, e)
both false b e = absurd (false≢true e)

pub neither : (a b : Bool) → (a || b) ≡ false → (a ≡ false) × (b ≡ false)
neither true b e = absurd (false≢true (sym e))
neither false b e = (refl, e)

pub beq-true : (a b : Bool) → beq a b ≡ true → a ≡ b
beq-true true true e = refl
beq-true true false e = sym e
beq-true false true e = e
beq-true false false e = refl
