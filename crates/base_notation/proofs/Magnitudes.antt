-- How large sums and differences of whole numbers are: `mag` is n both for n and for -(n + 1). Assumes nothing.
-- `add_mag`: a sum is at most 1 larger than its two numbers together.
-- `sub_is`: the difference of two naturals is `sub_ℕ`, which compares them once.
-- `sub_mag`: that difference is no larger than the two together.
-- `neg_mag`, `neg_mag_le`: the magnitude of -n is n - 1, and so at most any number that n is at most one above.
-- `quot_mag`: a quotient is no larger than the number that is divided.
use mathlib.Core.Path.{◌≡◌, refl, ap}
use mathlib.Core.Bool.{Bool, true, false, cond}
use Prim.Native.Nat.{ℕ, zero, suc, ◌+◌, ◌-◌, ◌/◌, ◌≤◌}
use native.Mathlib.Nat.{div-le_self}
use native.Mathlib.Omega.{arith}
use borrow.Author.Tests.{le-ltb}
use lib.Dec.{ltb}
use lib.IntN.{ℤ, pos, negsuc, neg_ℤ, sub_ℕ, ◌+ℤ◌, ◌-ℤ◌}
use lib.Signed.{mag, quot_z}

-- a - b in either case of its comparison
sub_by : (t : Bool) (a b : ℕ) → mag (cond t (negsuc (b - suc a)) (pos (a - b))) ≤ a + b
sub_by true a b = omega arith
sub_by false a b = omega arith

pub add_mag : (a b : ℤ) → mag (a +ℤ b) ≤ mag a + mag b + 1
add_mag (pos a) (pos b) = omega arith
add_mag (pos a) (negsuc b) = omega (arith, sub_by (ltb a (suc b)) a (suc b))
add_mag (negsuc a) (pos b) = omega (arith, sub_by (ltb b (suc a)) b (suc a))
add_mag (negsuc a) (negsuc b) = omega arith

pub sub_is : (a b : ℕ) → pos a -ℤ pos b ≡ sub_ℕ a b
sub_is a zero = rw (le-ltb a 0 (omega arith)) (ap pos (omega arith))
sub_is a (suc b) = refl

pub sub_mag : (a b : ℕ) → mag (pos a -ℤ pos b) ≤ a + b
sub_mag a b = rw (sub_is a b) (sub_by (ltb a b) a b)

pub neg_mag : (n : ℕ) → mag (neg_ℤ (pos n)) ≡ n - 1
neg_mag zero = refl
neg_mag (suc n) = omega arith

pub neg_mag_le : (n m : ℕ) → n ≤ suc m → mag (neg_ℤ (pos n)) ≤ m
neg_mag_le n m h = omega (arith, neg_mag n)

pub quot_mag : (z : ℤ) (k : ℕ) → mag (quot_z z (pos k)) ≤ mag z
quot_mag (pos a) k = div-le_self a k
quot_mag (negsuc a) k = neg_mag_le (suc a / k) a (div-le_self (suc a) k)
