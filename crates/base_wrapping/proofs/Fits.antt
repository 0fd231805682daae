-- What fits an i32, and so reads back from its bits as itself. Assumes nothing.
-- `read`: an i32 as it is read back from its bits.
-- `quot_fits`: the quotient of an i32 by a natural fits an i32.
-- `wrap_fits`, `wrap_back`: what was wrapped fits, and reads back as itself.
-- `quot_back`: the quotient of what was wrapped reads back as itself.
-- `returned`: a call's result that fits reads back as what its contract says.
use Rattle.std.proofs.Common.{◌≡◌, ℕ, ◌^◌, ◌<◌, ℤ, pos, negsuc, ◌∙◌, arith, to_z-of_z, w32, SFits, to_z, of_z}
use borrow.Author.Rules.{sfits_of}
use lib.Signed.{mag}
use mir.Facts.{sfits_to_z}
use Rattle.base_notation.proofs.Magnitudes.{quot_mag}
use Rattle.base_wrapping.specs.Wrap.{low32, wrap32, ◌÷◌}

abbrev pub read : ℤ → ℤ
read z = to_z w32 (of_z w32 z)

pub quot_fits : (z : ℤ) (k : ℕ) → SFits w32 z → SFits w32 (z ÷ pos k)
quot_fits z k f = omega (arith, quot_mag z k)

low_lt : (z : ℤ) → low32 z < 2 ^ 32
low_lt (pos n) = omega arith
low_lt (negsuc n) = omega arith

pub wrap_fits : (z : ℤ) → SFits w32 (wrap32 z)
unfolding wrap32
wrap_fits z = sfits_to_z (record { fits = low_lt z })

pub wrap_back : (z : ℤ) → read (wrap32 z) ≡ wrap32 z
wrap_back z = to_z-of_z (wrap_fits z)

pub quot_back : (z : ℤ) (k : ℕ) → read (wrap32 z ÷ pos k) ≡ wrap32 z ÷ pos k
quot_back z k = to_z-of_z (quot_fits (wrap32 z) k (wrap_fits z))

pub returned : {r z : ℤ} → mag r < 2 ^ 31 → r ≡ z → read r ≡ z
returned h e = to_z-of_z {w = w32} (sfits_of h) ∙ e
