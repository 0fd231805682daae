-- Where a byte is, from a place on.
-- `passed`: a byte that is another is passed. `here`, `nowhere`: at the byte, and at the text's end, none is passed.
-- `found`: the place by its equation is within the text. Assumes nothing.
use mathlib.Core.Path.{◌≡◌}
use mathlib.Core.Bool.{not}
use mathlib.Core.List.{List}
use Prim.Native.Nat.{ℕ, suc, ◌+◌, ◌≤◌, ◌<◌}
use native.Mathlib.Omega.{arith}
use borrow.Author.Tests.{eq-eqb, ne_eqb}
use lib.Dec.{eqb}
use lib.ListN.{length, drop}
use Rattle.base_notation.specs.Text.{byte_at}
use Rattle.base_strtol.proofs.Leading.{leading_on, leading_stop, leading_end, leading_place}
use Rattle.line_buffers.specs.Input.{before, Found}

module _ (s : List ℕ) (b at : ℕ) where
  pub passed : at < length s → (byte_at s at ≡ b → ⊥) → before b (drop at s) ≡ suc (before b (drop (at + 1) s))
  passed h n = leading_on (λ x. not (eqb x b)) s at h (rw (ne_eqb _ _ n))

  pub here : at < length s → byte_at s at ≡ b → before b (drop at s) ≡ 0
  here h e = leading_stop (λ x. not (eqb x b)) s at h (rw (eq-eqb _ _ e))

  pub nowhere : length s ≤ at → before b (drop at s) ≡ 0
  nowhere h = leading_end (λ x. not (eqb x b)) s at h

  pub found : (r : ℕ) → r ≡ at + before b (drop at s) → Found s at b r
  found r e = record { is = e; on = omega arith; within = omega (arith, leading_place (λ x. not (eqb x b)) s at) }
