-- The fields that were read are numbers of 32 bits. Assumes nothing.
-- `known`: each of them fits an i32, and so reads back from its bits as itself.
use mathlib.Core.Path.{◌≡◌}
use mathlib.Core.List.{List, [], ◌∷◌}
use Prim.Native.Nat.{ℕ, zero, suc}
use native.Mathlib.Omega.{arith}
use lib.IntN.{ℤ, pos}
use lib.ListN.{get_or}
use mir.Facts.{to_z-of_z}
use mir.Syntax.{w32}
use mir.Val.{Val, SFits}
use denote.Array.{each}
use denote.Laws.{Is}
use denote.Signed.{SInt}
use denote.Shadow.{shadow}
use denote.Struct.Declared.{row}
use Rattle.read_fields.specs.contracts.Fields.{the_type as fields_type}
use Rattle.read_fields.specs.Fields.{get}
use Rattle.read_fields.specs.declared.Fields.{Fields}
use Rattle.base_wrapping.proofs.Fits.{read}

-- an element of a list of numbers of 32 bits; past its end it is 0
each_fits : (xs : List ℤ) (us : List Val) (k : ℕ) → shadow (each ℤ (SInt w32).own_val xs us) → SFits w32 (get_or xs k (pos 0))
each_fits [] us k p = omega arith
each_fits (x ∷ xs) [] k p = absurd p
each_fits (x ∷ xs) (u ∷ us) zero p = record { sfits = p.0.1 }
each_fits (x ∷ xs) (u ∷ us) (suc k) p = each_fits xs us k p.1

-- the fields that were read
pub record Known (f : Fields) : Type 0 where
  pub fits : (k : ℕ) → SFits w32 (get f k)
  pub back : (k : ℕ) → read (get f k) ≡ get f k

pub known : (f : Fields) (vs : List Val) → Is (row fields_type) f vs → Known f
known f vs held = record { fits = fits; back = λ k. to_z-of_z (fits k) }
  where
    fits : (k : ℕ) → SFits w32 (get f k)
    fits k = each_fits f.values _ k held.1.1.0.1.1
