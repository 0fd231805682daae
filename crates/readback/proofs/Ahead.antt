-- How far a reader may be ahead of the text that is left: by bytes in front that are spaces or separators.
-- Assumes nothing.
-- `Ahead e u`: the first e bytes of u are spaces or separators. `inked`: a text begins with a byte that is neither.
-- `ahead_spaces`, `ahead_skip`, `ahead_more`: a reader that skips spaces, or one more such byte, is still so ahead.
-- `ahead_within`: it is not past the end. `ahead_all`: where it is at the end, it is ahead by the whole last part.
-- `ink_ahead`, `ink_spaces`, `ink_some`: before an inked text no reader is ahead; it has no spaces; it is not empty.
use mathlib.Core.Path.{◌≡◌, refl}
use mathlib.Core.Bool.{Bool, true, false, not, false≢true}
use mathlib.Core.List.{List, [], ◌∷◌, ◌++◌}
use Prim.Native.Nat.{ℕ, zero, suc, ◌+◌, ◌≤◌, ◌<◌}
use native.Mathlib.Nat.{zero-add, suc-add}
use native.Mathlib.Omega.{arith}
use borrow.Author.Tests.{not-true}
use lib.ListN.{length, drop}
use Rattle.base_notation.specs.Choice.{when◌then◌else◌}
use Rattle.base_notation.specs.Text.{byte_at}
use Rattle.base_notation.proofs.Cases.{neither}
use Rattle.base_chars.specs.Class.{is_space, is_separator}
use Rattle.base_strtol.specs.Runs.{leading, spaces}
use Rattle.readback.proofs.Nodes.{is_blank}

abbrev pub Ahead : ℕ → List ℕ → Type 0
Ahead zero u = Unit {0}
Ahead (suc e) [] = ⊥
Ahead (suc e) (b ∷ u) = (is_blank b ≡ true) × Ahead e u

pub ahead_spaces : (u : List ℕ) → Ahead (spaces u) u
unfolding leading
ahead_spaces [] = tt
ahead_spaces (b ∷ u) = by (is_space b) refl (ahead_spaces u)
  where
    by : (t : Bool) → is_space b ≡ t → Ahead (spaces u) u → Ahead (when t then suc (spaces u) else 0) (b ∷ u)
    by true q ih = (rw q, ih)
    by false q ih = tt

pub ahead_more : (e : ℕ) (u : List ℕ) → Ahead e u → e < length u → is_blank (byte_at u e) ≡ true → Ahead (suc e) u
ahead_more zero [] k h q = absurd (omega arith)
ahead_more zero (b ∷ u) k h q = (q, tt)
ahead_more (suc e) [] k h q = absurd k
ahead_more (suc e) (b ∷ u) k h q = (k.0, ahead_more e u k.1 (omega arith) q)

pub ahead_within : (e : ℕ) (u : List ℕ) → Ahead e u → e ≤ length u
ahead_within zero u k = omega arith
ahead_within (suc e) [] k = absurd k
ahead_within (suc e) (b ∷ u) k = omega (arith, ahead_within e u k.1)

abbrev pub inked : List ℕ → Bool
inked [] = false
inked (b ∷ u) = not (is_blank b)

pub ink_ahead : (u v : List ℕ) → inked u ≡ true → (e : ℕ) → Ahead e (u ++ v) → e ≡ 0
ink_ahead u v i zero k = refl
ink_ahead [] v i (suc e) k = absurd (false≢true i)
ink_ahead (b ∷ u) v i (suc e) k = absurd (false≢true (rw k.0 at i))

pub ink_spaces : (u v : List ℕ) → inked u ≡ true → spaces (u ++ v) ≡ 0
unfolding leading
ink_spaces [] v i = absurd (false≢true i)
ink_spaces (b ∷ u) v i = rw (neither (is_space b) (is_separator b) (not-true _ i)).0

pub ink_some : (u : List ℕ) → inked u ≡ true → 0 < length u
ink_some [] i = absurd (false≢true i)
ink_some (b ∷ u) i = omega arith

pub ahead_all : (u v : List ℕ) → Ahead (length (u ++ v)) (u ++ v) → Ahead (length v) v
ahead_all [] v k = k
ahead_all (b ∷ u) v k = ahead_all u v k.1

pub ahead_skip : (e : ℕ) (u : List ℕ) → Ahead e u → Ahead (e + spaces (drop e u)) u
ahead_skip zero u k = rw (zero-add (spaces u)) (ahead_spaces u)
ahead_skip (suc e) [] k = absurd k
ahead_skip (suc e) (b ∷ u) k = rw (suc-add e (spaces (drop e u))) (k.0, ahead_skip e u k.1)
