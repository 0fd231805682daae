-- The digits of a number, found from the last on: those of what is left, then those stored, are the number's (`Spelt`).
-- `begun`: so it is before the first is stored. `more`: so it stays with one digit more, while others are left.
-- `ended`: where nothing is left, the digits stored are the number's. `room_left`: all of them have room.
-- `digits-length`: a number below a power of ten has no more digits than the power says. Assumes nothing.
use mathlib.Core.Path.{◌≡◌, ◌∙◌, refl, sym, ap}
use mathlib.Core.List.{List, [], ◌∷◌, ◌++◌, append_assoc, append-nil}
use Prim.Native.Nat.{ℕ, zero, suc, ◌-◌, ◌/◌, ◌^◌, ◌<◌, ◌≤◌}
use native.Mathlib.Nat.{pow-suc}
use native.Mathlib.Omega.{arith}
use lib.ListN.{length, drop, set, length-append, length-set, length-drop, drop_of_length-le}
use lib.Seq.{drop-cons, drop-set-lt, get_or-set_same}
use Rattle.line_buffers.specs.Decimal.{digit, significant, digits}

-- a tenth has one digit less
tenth : (k n : ℕ) → n < 10 ^ suc k → n / 10 < 10 ^ k
tenth k n h = omega (arith, rw (pow-suc 10 k) at h)

-- any count of digits that is enough gives the same ones
enough : (j k n : ℕ) → n < 10 ^ j → n < 10 ^ k → significant j n ≡ significant k n
unfolding significant
enough zero zero n h i = refl
enough zero (suc k) zero h i = refl
enough zero (suc k) (suc n) h i = absurd (omega arith)
enough (suc j) zero zero h i = refl
enough (suc j) zero (suc n) h i = absurd (omega arith)
enough (suc j) (suc k) zero h i = refl
enough (suc j) (suc k) (suc n) h i = rw (enough j k (suc n / 10) (tenth j (suc n) h) (tenth k (suc n) i))

below_power : (n : ℕ) → n < 10 ^ n
below_power zero = omega arith
below_power (suc n) = let h = below_power n in rw (pow-suc 10 n) (omega arith)

-- no more digits than are asked for
significant-length : (k n : ℕ) → length (significant k n) ≤ k
unfolding significant
significant-length zero n = omega arith
significant-length (suc k) zero = omega arith
significant-length (suc k) (suc n) = rw length-append (omega (arith, significant-length k (suc n / 10)))

pub digits-length : (k n : ℕ) → n < 10 ^ suc k → length (digits n) ≤ suc k
unfolding digits
digits-length k n h =
    rw (length-append, enough n k (n / 10) (omega (arith, below_power n)) (tenth k n h)) (omega (arith, significant-length k (n / 10)))

at_least_one : (n : ℕ) → 1 ≤ length (digits n)
unfolding digits
at_least_one n = rw length-append (omega arith)

-- of 0 there are none
none : (k : ℕ) → significant k 0 ≡ []
unfolding significant
none zero = refl
none (suc k) = refl

-- those before the last are the digits of a tenth, where that is not 0
before_last : (rest tenth : ℕ) → 0 < tenth → tenth < rest → significant rest tenth ≡ digits tenth
unfolding significant digits
before_last rest zero p h = absurd (omega arith)
before_last zero (suc m) p h = absurd (omega arith)
before_last (suc k) (suc m) p h =
    rw (enough k (suc m) (suc m / 10) (omega (arith, below_power k)) (omega (arith, below_power (suc m))))

-- a digit stored in front of others
stored : (text : List ℕ) (i d : ℕ) → i < length text → drop i (set text i d) ≡ d ∷ drop (suc i) text
stored text i d h = drop-cons (set text i d) i 0 (rw length-set h) ∙ rw (get_or-set_same text i d 0 h, drop-set-lt (suc i) text i d (omega arith))

-- the last digit of `rest`, stored before others
last : (text : List ℕ) (i rest : ℕ) → i < length text
    → digits rest ++ drop (suc i) text ≡ significant rest (rest / 10) ++ drop i (set text i (digit rest))
unfolding digits
last text i rest h =
    rw (stored text i (digit rest) h) (append_assoc (significant rest (rest / 10)) (digit rest ∷ []) (drop (suc i) text))

-- the digits of `rest` are still to be stored, before those from `first` on
pub record Spelt (n : ℕ) (text : List ℕ) (first rest : ℕ) : Type 0 where
  pub room : rest < 10 ^ first
  pub size : length text ≡ 20
  pub is : digits rest ++ drop first text ≡ digits n

-- at first all of them are
pub begun : (n : ℕ) (text : List ℕ) → n < 10 ^ 20 → length text ≡ 20 → Spelt n text 20 n
begun n text h l =
    record { room = h; size = l; is = rw (drop_of_length-le text {i = 20} (omega arith), append-nil (digits n)) }

module _ (n : ℕ) (text : List ℕ) (first rest : ℕ) (s : Spelt n text first rest) where
  module _ (p : 0 < first) (l : first ≤ 20) where
    before_first : first ≡ suc (first - 1)
    before_first = omega arith

    joined : significant rest (rest / 10) ++ drop (first - 1) (set text (first - 1) (digit rest)) ≡ digits n
    joined = sym (last text (first - 1) rest (omega (arith, s.size))) ∙ (rw before_first at s.is)

    -- one digit more, with others before it
    pub more : (rest / 10 ≡ 0 → ⊥) → Spelt n (set text (first - 1) (digit rest)) (first - 1) (rest / 10)
    more some_left =
        let positive : 0 < rest / 10 = omega arith in
        record {
          room = tenth (first - 1) rest (rw before_first at s.room);
          size = length-set text (first - 1) (digit rest) ∙ s.size;
          is = rw (before_last rest (rest / 10) positive (omega arith)) at joined;
        }

    -- or with none
    pub ended : rest / 10 ≡ 0 → drop (first - 1) (set text (first - 1) (digit rest)) ≡ digits n
    ended none_left = rw (none_left, none rest) at joined

  -- there is room for all digits
  pub room_left : n < 10 ^ 20 → first ≡ 0 → ⊥
  room_left h e =
      omega (
        arith,
        ap length s.is,
        length-append (digits rest) (drop first text),
        length-drop first text,
        s.size,
        at_least_one rest,
        digits-length 19 n h,
      )
