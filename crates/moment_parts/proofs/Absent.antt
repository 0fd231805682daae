-- Fields that are absent, told by the bits of them all at once. Assumes nothing.
-- `all_zero_lem`: one test of the bits of numbers, joined, is the test of each number.
-- `zeros`: fields that are absent are 0.
use mathlib.Core.Path.{◌≡◌, refl, ◌∙◌, ap}
use mathlib.Core.Bool.{Bool, true, false, ◌&&◌, false≢true}
use mathlib.Core.List.{List, [], ◌∷◌}
use Prim.Native.Nat.{ℕ, ◌≤◌, ◌<◌, ◌^◌}
use native.Mathlib.Omega.{arith}
use borrow.Author.Rules.{sfits_of}
use borrow.Author.Tests.{eqb-true, eqb-false, ne_eqb}
use lib.Bits.{bit_or, and_le_r, or_comm, or_add_and}
use lib.Dec.{eqb}
use lib.IntN.{ℤ, pos, negsuc}
use lib.Signed.{mag}
use mir.Syntax.{w32}
use mir.Val.{of_z}
use Rattle.base_notation.proofs.Cases.{both}
use Rattle.read_fields.specs.Fields.{get, is_zero}
use Rattle.read_fields.specs.declared.Fields.{Fields}
use Rattle.moment_sums.proofs.Tests.{zero_bits}
use Rattle.moment_parts.specs.Plain.{absent_all}

or_le : (a b : ℕ) → a ≤ bit_or a b
or_le a b = omega (arith, or_add_and a b, and_le_r a b)

-- two numbers joined are 0 where both are
or_test : (a b : ℕ) → eqb (bit_or a b) 0 ≡ (eqb a 0 && eqb b 0)
or_test a b = split (eqb a 0) (eqb b 0) refl refl
  where
    split : (x y : Bool) → eqb a 0 ≡ x → eqb b 0 ≡ y → eqb (bit_or a b) 0 ≡ (x && y)
    split true true p q = rw (eqb-true a 0 p, eqb-true b 0 q)
    split true false p q = ne_eqb (bit_or a b) 0 (λ e. eqb-false b 0 q (omega (arith, or_le b a, or_comm a b)))
    split false y p q = ne_eqb (bit_or a b) 0 (λ e. eqb-false a 0 p (omega (arith, or_le a b)))

and-true : (a : Bool) → a ≡ (a && true)
and-true true = refl
and-true false = refl

and_assoc : (a b c : Bool) → ((a && b) && c) ≡ (a && (b && c))
and_assoc true b c = refl
and_assoc false b c = refl

-- the bits of numbers, joined to some
abbrev pub joined : ℕ → List ℤ → ℕ
joined a [] = a
joined a (z ∷ zs) = joined (bit_or a (of_z w32 z)) zs

-- all numbers of a list are 0, and all have 32 bits
abbrev pub all_zero : List ℤ → Bool
all_zero [] = true
all_zero (z ∷ zs) = is_zero z && all_zero zs

abbrev pub Fitting : List ℤ → Type 0
Fitting [] = Unit {0}
Fitting (z ∷ zs) = (mag z < 2 ^ 31) × Fitting zs

joined_zero : (a : ℕ) (zs : List ℤ) → Fitting zs → eqb (joined a zs) 0 ≡ (eqb a 0 && all_zero zs)
joined_zero a [] h = and-true (eqb a 0)
joined_zero a (z ∷ zs) h =
    joined_zero (bit_or a (of_z w32 z)) zs h.1
    ∙ ap (λ (t : Bool). t && all_zero zs) (or_test a (of_z w32 z) ∙ ap (λ (t : Bool). eqb a 0 && t) (zero_bits {z = z} (sfits_of h.0)))
    ∙ and_assoc (eqb a 0) (is_zero z) (all_zero zs)

pub all_zero_lem : (z : ℤ) (zs : List ℤ) → Fitting (z ∷ zs) → eqb (joined (of_z w32 z) zs) 0 ≡ all_zero (z ∷ zs)
all_zero_lem z zs h = joined_zero (of_z w32 z) zs h.1 ∙ ap (λ (t : Bool). t && all_zero zs) (zero_bits {z = z} (sfits_of h.0))

pub zero_is : (z : ℤ) → is_zero z ≡ true → z ≡ pos 0
zero_is (pos a) e = ap pos (eqb-true a 0 e)
zero_is (negsuc a) e = absurd (false≢true e)

-- each field of a list is 0
abbrev pub Zeros : Fields → List ℕ → Type 0
Zeros f [] = Unit {0}
Zeros f (k ∷ ks) = (get f k ≡ pos 0) × Zeros f ks

pub zeros : (f : Fields) (ks : List ℕ) → absent_all f ks ≡ true → Zeros f ks
zeros f [] e = tt
zeros f (k ∷ ks) e = let tests = both (is_zero (get f k)) (absent_all f ks) e in (zero_is (get f k) tests.0, zeros f ks tests.1)
