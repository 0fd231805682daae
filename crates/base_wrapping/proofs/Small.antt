-- Small naturals, which do not wrap. Assumes nothing.
-- `wrap_pos`: a natural below 2 ^ 31 stays as it is.
-- `sub_pos`: a - b of two naturals is the natural a - b, where b is at most a.
use Rattle.std.proofs.Common.{◌≡◌, ℕ, zero, suc, ◌-◌, ◌%◌, ◌^◌, ◌<◌, ◌≤◌, pos, ◌-ℤ◌, ap, ◌∙◌, arith, w32, le-ltb}
use mir.Facts.{to_z_pos}
use Rattle.base_wrapping.specs.Wrap.{wrap32}

pub wrap_pos : (n : ℕ) → n < 2 ^ 31 → wrap32 (pos n) ≡ pos n
unfolding wrap32
wrap_pos n h = to_z_pos w32 {n = n % 2 ^ 32} (omega arith) ∙ ap pos (omega arith)

pub sub_pos : (a b : ℕ) → b ≤ a → pos a -ℤ pos b ≡ pos (a - b)
sub_pos a zero h = ap pos (omega arith)
sub_pos a (suc b) h = rw (le-ltb a (suc b) h)
