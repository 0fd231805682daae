-- `read_words::months::number_in` meets its contract: each arm computes to the first eight letters of the month in
-- its slot, and the default to those of May. Assumes nothing.
use mathlib.Core.Path.{◌≡◌, refl, sym}
use Prim.Native.Nat.{ℕ}
use Rattle.base_notation.proofs.Table.{arm}
use Rattle.read_words.specs.Months.{month_in, number_in}
use Rattle.read_words.proofs.MonthLetters.{other_month}
use Rattle.read_words.proofs.months.number_in.Statement.{statement}
use Rattle.read_words.proofs.months.number_in.Tie as tie

-- any other number
other : (slot : ℕ) → month_in slot ≡ 4 → number_in slot ≡ number_in 3
unfolding number_in
other slot e = rw e

pub number_in_spec : {M : Type 1} → statement M
unfolding number_in
number_in_spec =
    tie.close
    (tie.spec
    (λ c. arm number_in 0 c.in-0.is refl)
    (λ c. arm number_in 1 c.in-1.is refl)
    (λ c. arm number_in 2 c.in-2.is refl)
    (λ c. arm number_in 4 c.in-4.is refl)
    (λ c. arm number_in 6 c.in-6.is refl)
    (λ c. arm number_in 7 c.in-7.is refl)
    (λ c. arm number_in 8 c.in-8.is refl)
    (λ c. arm number_in 9 c.in-9.is refl)
    (λ c. arm number_in 10 c.in-10.is refl)
    (λ c. arm number_in 11 c.in-11.is refl)
    (λ c. arm number_in 12 c.in-12.is refl)
    (λ c. sym (other c.args.slot (other_month _ c.in_default.in_default-own.rest))))
