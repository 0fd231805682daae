-- `read_words::months::same_below` meets its contract: a shift leaves the bits below, and drops those above.
-- Assumes nothing.
use mathlib.Core.Path.{◌≡◌, ◌∙◌, refl, sym, ap}
use mathlib.Core.Bool.{Bool, true, false}
use Prim.Native.Nat.{ℕ, ◌+◌, ◌-◌, ◌*◌, ◌/◌, ◌%◌, ◌^◌, ◌<◌}
use native.Mathlib.Nat.{add-zero, mul-mod_left}
use native.Mathlib.Omega.{arith}
use borrow.Author.Tests.{eq-eqb, ne_eqb, eqb-true, eqb-false}
use lib.Dec.{eqb}
use lib.Pow.{mod-pow-add, shl-shr}
use Rattle.read_words.proofs.months.same_below.Goals as goal

module _ (left : ℕ) (h : left < 64) where
  shifted : (x : ℕ) → x * 2 ^ left % 2 ^ 64 ≡ x % 2 ^ (64 - left) * 2 ^ left
  shifted x =
      let whole : 64 ≡ 64 - left + left = omega arith in
      ap (λ (n : ℕ). x * 2 ^ left % 2 ^ n) whole
      ∙ mod-pow-add (x * 2 ^ left) (64 - left) left
      ∙ rw (shl-shr x left, mul-mod_left x (2 ^ left)) (add-zero _)

  -- numbers are the same exactly if they are after a shift
  same_shifted : (a b : ℕ) → eqb (a * 2 ^ left) (b * 2 ^ left) ≡ eqb a b
  same_shifted a b = split (eqb a b) refl
    where
      split : (q : Bool) → eqb a b ≡ q → eqb (a * 2 ^ left) (b * 2 ^ left) ≡ q
      split true q = eq-eqb _ _ (ap (λ (n : ℕ). n * 2 ^ left) (eqb-true a b q))
      split false q =
          ne_eqb _ _ (λ e. eqb-false a b q (sym (shl-shr a left) ∙ ap (λ (n : ℕ). n / 2 ^ left) e ∙ shl-shr b left))

pub returns : goal.returns
returns c =
    let args = c.args in
    rw (shifted args.left c.requires args.x, shifted args.left c.requires args.y)
    (same_shifted args.left c.requires (args.x % 2 ^ (64 - args.left)) (args.y % 2 ^ (64 - args.left)))
