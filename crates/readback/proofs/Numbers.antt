-- Numbers that were written with a fixed width. Assumes nothing.
-- `number_read`: such a number is read back, whether reading takes that many digits or all digits that are there. In
-- the second case no digit may follow it.
use Rattle.std.specs.Prelude.{Ok}
use mathlib.Core.Path.{◌≡◌, ◌∙◌, refl, ap}
use mathlib.Core.Bool.{Bool, true, false}
use mathlib.Core.List.{List, [], ◌++◌, append-nil}
use Prim.Native.Nat.{ℕ, ◌+◌, ◌-◌, ◌^◌, ◌≤◌, ◌<◌}
use native.Mathlib.Nat.{add-zero, zero-add}
use native.Mathlib.Omega.{arith}
use borrow.Author.Tests.{ne_eqb, lt-ltb, le-ltb}
use lib.IntN.{pos}
use lib.ListN.{length, take, drop, length-append, length-drop}
use lib.Seq.{take_at}
use Rattle.read_integers.specs.Number.{up_to, checked, fixed_at, number_at}
use Rattle.base_strtol.specs.Decimal.{decimal}
use Rattle.base_strtol.specs.Runs.{leading, digits, spaces}
use Rattle.base_strtol.specs.Strtol.{strtol, answer}
use Rattle.base_strtol.proofs.Decimals.{decimal-length, decimal_digits, count_append}
use Rattle.base_strtol.proofs.Unsigned.{no_space, strtol_field}

module _ (s u : List ℕ) (at w n pattern : ℕ) (some : 0 < w) (small : n < 10 ^ w) (fits : n < 2 ^ 31) (here : drop at s ≡ decimal w n ++ u) where
  -- what strtol finds is taken
  taken : checked pattern at (answer (pos n) (at + w) false) ≡ Ok (up_to (pos n) (at + w))
  unfolding checked
  taken = rw (ne_eqb (at + w) at (omega arith), lt-ltb n (2 ^ 31) fits)

  -- the input goes on for the whole width, and has no space before it
  room : w ≤ length s - at
  room = omega (arith, length-drop at s, ap (λ (t : List ℕ). length t) here, length-append (decimal w n) u, decimal-length w n)

  no_spaces : spaces (drop at s) ≡ 0
  no_spaces =
      no_space (drop at s) (omega (arith, ap digits here, count_append u (decimal w n) (decimal_digits w n), decimal-length w n))

  -- the digits of the field alone
  within : take w (drop at s) ≡ decimal w n ++ []
  within = rw (here, append-nil (decimal w n)) (take_at (decimal w n) u w (decimal-length w n))

  -- read by its width
  fixed : fixed_at s at w pattern ≡ Ok (up_to (pos n) (at + w))
  unfolding fixed_at leading
  fixed =
      let in_field : strtol (take w (drop at s)) 0 ≡ answer (pos n) (0 + w) false = strtol_field (take w (drop at s)) 0 w n [] some small (omega arith) refl within in
      rw (no_spaces, add-zero at, in_field, zero-add w, le-ltb (length s - at) w room, lt-ltb 0 w some, le-ltb w w (omega arith)) taken

  pub number_read : (free : Bool) → (free ≡ true → digits u ≡ 0) → number_at s at w pattern free ≡ Ok (up_to (pos n) (at + w))
  unfolding number_at
  number_read true stops = ap (checked pattern at) (strtol_field s at w n u some small (omega arith) (stops refl) here) ∙ taken
  number_read false stops = fixed
