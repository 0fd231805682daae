-- Where the end of a number that strtol reads is. Assumes nothing.
-- `end_from`: it is not before the start.
-- `end_within`: it is within the text, or at a start that is past its end.
-- `end_start`: where it is the start, there are no digits.
use mathlib.Core.Path.{◌≡◌, refl}
use mathlib.Core.List.{List}
use Prim.Native.Nat.{ℕ, zero, suc, ◌+◌, ◌≤◌, ◌<◌, max}
use native.Mathlib.Omega.{arith}
use borrow.Author.Tests.{eq-eqb, ne_eqb}
use lib.ListN.{length, drop, length-drop}
use Rattle.base_chars.specs.Class.{is_space, is_digit}
use Rattle.base_strtol.specs.Runs.{spaces, digits}
use Rattle.base_strtol.specs.Strtol.{signs, trimmed, unsigned, strtol}
use Rattle.base_strtol.proofs.Leading.{leading_within}

module _ (s : List ℕ) (start : ℕ) where
  -- no digits: the end is the start
  pub end_none : digits (unsigned (drop start s)) ≡ 0 → (strtol s start).end ≡ start
  unfolding strtol
  end_none e = rw (eq-eqb (digits (unsigned (drop start s))) 0 e)

  -- digits: the end is after them
  pub end_some
      : 0 < digits (unsigned (drop start s))
      → (strtol s start).end ≡ start + spaces (drop start s) + signs (trimmed (drop start s)) + digits (unsigned (drop start s))
  unfolding strtol
  end_some h = rw (ne_eqb (digits (unsigned (drop start s))) 0 (omega arith))

  -- the text after the spaces and the sign has room for the digits
  room
      : 0 < digits (unsigned (drop start s))
      → start + spaces (drop start s) + signs (trimmed (drop start s)) + digits (unsigned (drop start s)) ≤ length s
  room h =
      let t = drop start s in
      let u = trimmed t in
      omega (
        arith,
        leading_within is_digit (unsigned t),
        leading_within is_space t,
        length-drop (signs u) u,
        length-drop (spaces t) t,
        length-drop start s,
      )

  -- either there are no digits, or the end is after the start and within the text
  module _ {P : Type 0} (none : (strtol s start).end ≡ start → digits (unsigned (drop start s)) ≡ 0 → P)
      (some : start < (strtol s start).end → (strtol s start).end ≤ length s → 0 < digits (unsigned (drop start s)) → P) where
    either : P
    either =
        (elim (digits (unsigned (drop start s))) as (λ n. digits (unsigned (drop start s)) ≡ n → P) [
          | zero ↦ λ e. none (end_none e) e
          | suc n ↦ λ e.
              let some_digits : 0 < digits (unsigned (drop start s)) = omega arith in
              some (omega (arith, end_some some_digits)) (omega (arith, end_some some_digits, room some_digits)) some_digits
        ]) refl

  pub end_from : start ≤ (strtol s start).end
  end_from = either (λ e z. omega arith) (λ a b h. omega arith)

  pub end_within : (strtol s start).end ≤ max start (length s)
  end_within = either (λ e z. omega arith) (λ a b h. omega arith)

  pub end_start : (strtol s start).end ≡ start → digits (unsigned (drop start s)) ≡ 0
  end_start e = either (λ q z. z) (λ a b h. absurd (omega arith))
