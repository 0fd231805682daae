-- Digits of a fixed width are read as the number that they were written from. Assumes nothing.
-- `AllDigits`: every byte of a text is a digit.
-- `decimal-length`, `decimal_digits`: a number written in w digits has w bytes, all of them digits.
-- `count_append`: digits in front of a text are counted with those that the text begins with.
-- `field_digits`, `field_number`: of w digits before a text that begins with none, the count is w and the number n.
use mathlib.Core.Path.{◌≡◌, ◌∙◌, refl}
use mathlib.Core.Bool.{true, false}
use mathlib.Core.List.{List, [], ◌∷◌, ◌++◌}
use Prim.Native.Nat.{ℕ, zero, suc, ◌+◌, ◌-◌, ◌*◌, ◌/◌, ◌%◌, ◌^◌, ◌<◌}
use native.Mathlib.Omega.{arith}
use lib.ListN.{length, length-append}
use Rattle.base_chars.specs.Class.{is_digit}
use Rattle.base_chars.proofs.Classes.{digit_class}
use Rattle.base_strtol.specs.Decimal.{decimal}
use Rattle.base_strtol.specs.Runs.{leading, digits, number, number_from}

abbrev pub AllDigits : List ℕ → Type 0
AllDigits [] = Unit {0}
AllDigits (b ∷ s) = (is_digit b ≡ true) × AllDigits s

all_append : (s t : List ℕ) → AllDigits s → AllDigits t → AllDigits (s ++ t)
all_append [] t h k = k
all_append (b ∷ s) t h k = (h.0, all_append s t h.1 k)

is_digit_lem : (d : ℕ) → d < 10 → is_digit (48 + d) ≡ true
is_digit_lem d h = rw (digit_class (48 + d) (omega arith) (omega arith))

pub decimal-length : (w n : ℕ) → length (decimal w n) ≡ w
unfolding decimal
decimal-length zero n = refl
decimal-length (suc w) n = simp (length-append, decimal-length w (n / 10)) (omega arith)

pub decimal_digits : (w n : ℕ) → AllDigits (decimal w n)
unfolding decimal
decimal_digits zero n = tt
decimal_digits (suc w) n =
    all_append (decimal w (n / 10)) _ (decimal_digits w (n / 10)) (is_digit_lem (n % 10) (omega arith), tt)

-- digits in front of a text t: their count, and their number
module _ (t : List ℕ) where
  pub count_append : (s : List ℕ) → AllDigits s → digits (s ++ t) ≡ length s + digits t
  unfolding leading
  count_append [] h = omega arith
  count_append (b ∷ s) h = rw h.0 (omega (arith, count_append s h.1))

  pub number_append : (s : List ℕ) (a : ℕ) → AllDigits s → number_from a (s ++ t) ≡ number_from (number_from a s) t
  unfolding number_from
  number_append [] a h = refl
  number_append (b ∷ s) a h = rw h.0 (number_append s (a * 10 + (b - 48)) h.1)

-- a text with no digit in front leaves the number as it is
pub number_none : (a : ℕ) (t : List ℕ) → digits t ≡ 0 → number_from a t ≡ a
unfolding leading number_from
number_none a [] e = refl
number_none a (b ∷ t) e =
    (elim (is_digit b) as (λ q. is_digit b ≡ q → number_from a (b ∷ t) ≡ a) [
      | true ↦ λ q. absurd (omega (arith, rw q at e))
      | false ↦ λ q. rw q
    ]) refl

last_digit : (a d : ℕ) → d < 10 → number_from a ((48 + d) ∷ []) ≡ a * 10 + d
unfolding number_from
last_digit a d h = rw (is_digit_lem d h) (omega arith)

decimal-number : (w n : ℕ) → n < 10 ^ w → number (decimal w n) ≡ n
unfolding decimal number_from
decimal-number zero n h = omega arith
decimal-number (suc w) n h =
    number_append ((48 + n % 10) ∷ []) (decimal w (n / 10)) 0 (decimal_digits w (n / 10))
    ∙ rw (decimal-number w (n / 10) (omega arith)) (last_digit (n / 10) (n % 10) (omega arith) ∙ omega arith)

module _ (w n : ℕ) (t : List ℕ) (small : n < 10 ^ w) (stops : digits t ≡ 0) where
  pub field_digits : digits (decimal w n ++ t) ≡ w
  field_digits = omega (arith, count_append t (decimal w n) (decimal_digits w n), decimal-length w n)

  pub field_number : number (decimal w n ++ t) ≡ n
  field_number =
      number_append t (decimal w n) 0 (decimal_digits w n) ∙ rw (decimal-number w n small) (number_none n t stops)
