-- Laws of a number of few digits right at a place (`short_at`). Assumes nothing.
-- `short_read`: digits that were all read, of a number below 1,000,000,000, are such a number.
-- `short_not`: where nine digits that matter are followed by one more, there is none.
-- `short_is`: where there is such a number, it is that of all digits there.
-- `short_pair`, `pair_found`: two digits are such a number. `pair_bytes`: where the test passes, there are two digits.
-- `pair_short`, `pair_ends`: a pair is read as such a number, and ends after two digits.
-- `short_small`: such a number is below 1,000,000,000.
-- `short_from`: it ends after its place.
-- `short_strtol`: it is what strtol reads there.
use mathlib.Core.Path.{◌≡◌, ◌∙◌, refl, sym, ap}
use mathlib.Core.Bool.{Bool, true, false, not, ◌&&◌}
use mathlib.Core.List.{List, [], ◌∷◌}
use Prim.Native.Nat.{ℕ, zero, suc, ◌+◌, ◌-◌, ◌*◌, ◌<◌, ◌≤◌}
use native.Mathlib.Omega.{arith}
use Rattle.std.specs.Prelude.{Option, Some, None}
use Rattle.std.specs.Bool.{then_some}
use Rattle.std.proofs.lemmas.Option.{none-some, same_Some}
use borrow.Author.Tests.{lt-ltb, le-ltb, ltb-true, not-true}
use lib.Dec.{ltb}
use lib.IntN.{pos}
use lib.ListN.{length, drop}
use Rattle.base_notation.specs.Choice.{when◌then◌else◌}
use Rattle.base_notation.specs.Text.{byte_at}
use Rattle.base_notation.proofs.Cases.{both, by_if}
use Rattle.base_chars.specs.Class.{is_digit}
use Rattle.base_chars.proofs.Classes.{digit_bounds}
use Rattle.base_strtol.specs.Runs.{digits, number, number_from}
use Rattle.base_strtol.specs.Strtol.{Pair, answer, digits_read, few, is_pair, limit, pair_at, short_at, strtol}
use Rattle.base_strtol.specs.declared.Run.{Run}
use Rattle.base_strtol.specs.declared.Short.{Short}
use Rattle.base_strtol.proofs.Digits.{Reading}
use Rattle.base_strtol.proofs.Leading.{leading_on, leading_stop, number_on, number_stop}
use Rattle.base_strtol.proofs.Unsigned.{strtol_digits}

-- more digits make no number less
number_least : (n : ℕ) (l : List ℕ) → n ≤ number_from n l
unfolding number_from
number_least n [] = omega arith
number_least n (b ∷ l) =
    by_if (λ (m : ℕ). n ≤ m) (is_digit b) (number_from (n * 10 + (b - 48)) l) n (λ e. omega (arith, number_least (n * 10 + (b - 48)) l)) (λ e. omega arith)

-- of a choice between a value and none that is a value, the test passed, and it is that value
when_some : {A : Type 0} (b : Bool) (x y : A) → (when b then Some x else None) ≡ Some y → (b ≡ true) × (x ≡ y)
when_some true x y e = (refl, same_Some x y e)
when_some false x y e = absurd (none-some y e)

-- a value where there is a place after the first
some_after : {A : Type 0} (at n : ℕ) (x : A) → then_some (ltb at (at + n)) x ≡ (when ltb 0 n then Some x else None)
some_after at zero x = rw (le-ltb at (at + 0) (omega arith)) refl
some_after at (suc n) x = rw (lt-ltb at (at + suc n) (omega arith), lt-ltb 0 (suc n) (omega arith)) refl

module _ (s : List ℕ) (at : ℕ) where
  pub short_read : {value end : ℕ} → record { value = value; end = end; over = false } ≡ digits_read (limit false) at (drop at s) → value < 1000000000
      → then_some (ltb at end) (few value end) ≡ short_at s at
  unfolding short_at
  short_read {value} {end} r small =
      let value_is : value ≡ number (drop at s) = omega (arith, ap (λ (x : Run). x.value) r) in
      let end_is : end ≡ at + digits (drop at s) = ap (λ (x : Run). x.end) r in
      let below = lt-ltb (number (drop at s)) 1000000000 (omega (arith, value_is)) in
      rw (value_is, end_is, below)
      (some_after at (digits (drop at s)) (few (number (drop at s)) (at + digits (drop at s))))

  pub short_not : {value i : ℕ} → Reading (limit false) s at value false i → 99999999 < value → i < length s → is_digit (byte_at s i) ≡ true
      → None ≡ short_at s at
  unfolding short_at
  short_not {value} {i} r large h d =
      let more = number_on r.n s i h d in
      let least = number_least (r.n * 10 + (byte_at s i - 48)) (drop (i + 1) s) in
      rw (le-ltb (number (drop at s)) 1000000000 (omega (arith, r.same, r.held, more, least))) refl

  -- where there is such a number, it is that of all digits there, and they are some
  pub short_is
      : (d : Short) → short_at s at ≡ Some d
      → (d.value ≡ number (drop at s)) × (d.end ≡ at + digits (drop at s)) × (0 < digits (drop at s)) × (number (drop at s) < 1000000000)
  unfolding short_at
  short_is d found =
      let t = drop at s in
      let parts = when_some (ltb (number t) 1000000000 && ltb 0 (digits t)) (few (number t) (at + digits t)) d found in
      let tests = both _ (ltb 0 (digits t)) parts.0 in
      (ap (λ (r : Short). r.value) (sym parts.1), ap (λ (r : Short). r.end) (sym parts.1), ltb-true _ _ tests.1, ltb-true _ _ tests.0)

  -- two digits
  pub short_pair : Pair s at → Some (few ((byte_at s at - 48) * 10 + (byte_at s (at + 1) - 48)) (at + 1 + 1)) ≡ short_at s at
  unfolding short_at
  short_pair (room, first, second, stops) =
      let a = byte_at s at - 48 in
      let b = byte_at s (at + 1) - 48 in
      let bounds_first = digit_bounds (byte_at s at) first in
      let bounds_second = digit_bounds (byte_at s (at + 1)) second in
      let n_first = number_on 0 s at (omega arith) first in
      let n_second = number_on (0 * 10 + a) s (at + 1) (omega arith) second in
      let n_stop = number_stop ((0 * 10 + a) * 10 + b) s (at + 1 + 1) room stops in
      let value_is : a * 10 + b ≡ number (drop at s) = omega (arith, n_first, n_second, n_stop) in
      let d_first = leading_on is_digit s at (omega arith) first in
      let d_second = leading_on is_digit s (at + 1) (omega arith) second in
      let d_stop = leading_stop is_digit s (at + 1 + 1) room stops in
      let end_is : at + 1 + 1 ≡ at + digits (drop at s) = omega (arith, d_first, d_second, d_stop) in
      let below = lt-ltb (number (drop at s)) 1000000000 (omega (arith, value_is, bounds_first, bounds_second)) in
      let some = lt-ltb 0 (digits (drop at s)) (omega (arith, end_is)) in
      rw (below, some) (λ i. Some (few (value_is i) (end_is i)))

  pub pair_found
      : (value end : ℕ) → Pair s at → value ≡ (byte_at s at - 48) * 10 + (byte_at s (at + 1) - 48) → end ≡ at + 2
      → Some (few value end) ≡ pair_at s at
  unfolding is_pair pair_at
  pair_found value end (room, first, second, stops) v e =
      let third : at + 1 + 1 ≡ at + 2 = omega arith in
      let pair : Pair s at = (room, first, second, stops) in
      let stop : is_digit (byte_at s (at + 2)) ≡ false = rw third at stops in
      rw (lt-ltb (at + 2) (length s) (omega arith), first, second, stop, v, e) (rw third at (short_pair pair))

  pub pair_bytes : is_pair s at ≡ true → Pair s at
  unfolding is_pair
  pair_bytes e =
      let ends = both _ (not (is_digit (byte_at s (at + 2)))) e in
      let digits_two = both _ (is_digit (byte_at s (at + 1))) ends.0 in
      let begins = both _ (is_digit (byte_at s at)) digits_two.0 in
      let two : at + 1 + 1 ≡ at + 2 = omega arith in
      (omega (arith, ltb-true _ _ begins.0), begins.1, digits_two.1, rw two (not-true _ ends.1))

  module _ (d : Short) (found : pair_at s at ≡ Some d) where
    -- a pair is there, and such a number is read
    pair_there : (is_pair s at ≡ true) × (short_at s at ≡ Some d)
    unfolding pair_at
    pair_there =
        by_if (λ (r : Option Short). r ≡ Some d → (is_pair s at ≡ true) × (short_at s at ≡ Some d)) (is_pair s at) _ _
        (λ e is. (e, is)) (λ e is. absurd (none-some d is)) found

    pub pair_short : pair_at s at ≡ short_at s at
    pair_short = found ∙ sym pair_there.1

    pub pair_ends : d.end ≡ at + 2
    pair_ends =
        let same = same_Some _ d (short_pair (pair_bytes pair_there.0) ∙ pair_there.1) in
        omega (arith, ap (λ (r : Short). r.end) same)

  module _ (d : Short) (found : short_at s at ≡ Some d) where
    pub short_small : d.value < 1000000000
    short_small = let is = short_is d found in omega (arith, is.0, is.3)

    pub short_from : at < d.end
    short_from = let is = short_is d found in omega (arith, is.1, is.2)

    pub short_strtol : strtol s at ≡ answer (pos d.value) d.end false
    short_strtol =
        let is = short_is d found in
        let value_is : d.value ≡ (digits_read (limit false) at (drop at s)).value = omega (arith, is.0, is.3) in
        let not_over = sym (le-ltb (limit false) (number (drop at s)) (omega (arith, is.3))) in
        strtol_digits s at (λ i. record { value = value_is i; end = is.1 i; over = not_over i }) (λ e. omega (arith, e, short_from))
