-- A name and the bytes at a place compared as numbers. Assumes nothing.
-- `same_parts`: numbers with a lowest byte each are the same exactly if both parts are.
-- `number_parts`: what the number of a name says: its first byte, how many bits and bytes it has, and its bytes.
-- `number_in`: the number of a name in a table of them all.
-- `key_begins`: the lowest bits of the bytes at a place are those of a name exactly if the name is there.
-- `key_first`: the lowest byte of the bytes at a place is the first.
-- `no_start`: no name begins with a byte that is none of the first bytes.
use mathlib.Core.Path.{◌≡◌, refl, ◌∙◌, ap, sym}
use mathlib.Core.Bool.{Bool, true, false, ◌&&◌, ◌||◌, false≢true}
use mathlib.Core.List.{List, [], ◌∷◌, map}
use Prim.Native.Nat.{ℕ, zero, suc, ◌+◌, ◌*◌, ◌/◌, ◌%◌, ◌^◌, ◌<◌, ◌≤◌}
use native.Mathlib.Nat.{mod-one, not-suc-le-zero}
use native.Mathlib.Omega.{arith}
use borrow.Author.Tests.{eq-eqb, ne_eqb, eqb-true, eqb-false, ltb-true}
use lib.Dec.{eqb, ltb}
use lib.ListN.{length, get_or, get_or-map}
use lib.Pow.{mod-pow-add}
use Rattle.base_notation.proofs.Cases.{both}
use Rattle.base_notation.proofs.Table.{all_from, entry}
use Rattle.base_notation.specs.Text.{byte_at, utf8}
use Rattle.std.specs.Prelude.{None}
use Rattle.template_patterns.specs.Numbers.{five_at, name_number, number_of, packed}
use Rattle.template_patterns.specs.Patterns.{names, name_of}
use Rattle.template_patterns.specs.Search.{first_with, matches_at, start_of}
use Rattle.template_patterns.proofs.Names.{head, name_is, name_length}

-- a number is one of some
abbrev elem : ℕ → List ℕ → Bool
elem n [] = false
elem n (b ∷ bs) = eqb n b || elem n bs

abbrev is_byte : ℕ → ℕ → Bool
is_byte j c = ltb c 256

-- the computed test
abbrev parted : ℕ → List ℕ → Bool
parted k n =
    eqb (number_of n % 256) (byte_at n 0)
    && (eqb (number_of n / 2 ^ 40) (8 * length n)
    && (eqb (number_of n / 2 ^ 43) (length n)
    && (eqb (number_of n % 2 ^ (8 * length n)) (packed n)
    && all_from is_byte 0 n)))

-- the parts of the number of pattern k's name
pub record Parts (k : ℕ) : Type 0 where
  pub first : name_number k % 256 ≡ head k
  pub bits : name_number k / 2 ^ 40 ≡ 8 * length (name_of k)
  pub size : name_number k / 2 ^ 43 ≡ length (name_of k)
  pub low : name_number k % 2 ^ (8 * length (name_of k)) ≡ packed (name_of k)
  pub bytes : all_from is_byte 0 (name_of k) ≡ true

pub number_parts : (k : ℕ) → k < 112 → Parts k
unfolding name_number
number_parts k h =
    let tests = both (eqb (number_of (name_of k) % 256) (head k)) _ (rw (name_is k) at (entry parted [] names refl k h)) in
    let after_first = both (eqb (number_of (name_of k) / 2 ^ 40) _) _ tests.1 in
    let after_bits = both (eqb (number_of (name_of k) / 2 ^ 43) _) _ after_first.1 in
    let after_size = both (eqb (number_of (name_of k) % 2 ^ (8 * length (name_of k))) _) _ after_bits.1 in
    record {
      first = eqb-true _ _ tests.0;
      bits = eqb-true _ _ after_first.0;
      size = eqb-true _ _ after_bits.0;
      low = eqb-true _ _ after_size.0;
      bytes = after_size.1;
    }

-- the number of a name in a table of them all
pub number_in : (table : List ℕ) → table ≡ map number_of names → (k : ℕ) → get_or table k 0 ≡ name_number k
unfolding name_number
number_in table e k =
    ap (λ (l : List ℕ). get_or l k 0) e ∙ get_or-map number_of names k [] ∙ ap number_of (name_is k)

-- c is none of some bytes, as a match says of its last arm
abbrev pub NoneOf : ℕ → List ℕ → Type 0
NoneOf c [] = Unit {0}
NoneOf c (b ∷ bs) = NoneOf c bs × (c ≡ b → ⊥)

-- the first bytes of the names, the last first
abbrev pub first_bytes : List ℕ
first_bytes = utf8 "ywutsrqpomjihfdcbaYWUTSRQPOMJIHFDCBA"

another : (c : ℕ) (bs : List ℕ) → NoneOf c bs → (n : ℕ) → elem n bs ≡ true → eqb n c ≡ false
another c [] none n e = absurd (false≢true e)
another c (b ∷ bs) none n e = split (eqb n b) refl (another c bs none.0 n)
  where
    split : (q : Bool) → eqb n b ≡ q → (elem n bs ≡ true → eqb n c ≡ false) → eqb n c ≡ false
    split true q rest = ne_eqb n c (λ z. none.1 (sym z ∙ eqb-true n b q))
    split false q rest = rest (rw q at e)

-- then no name begins with it
none_from : (c k : ℕ) (ns : List (List ℕ)) → NoneOf c first_bytes → all_from (λ (j : ℕ) (n : List ℕ). elem (byte_at n 0) first_bytes) k ns ≡ true → first_with k c ns ≡ None
none_from c k [] none e = refl
none_from c k (n ∷ ns) none e =
    let tests = both (elem (byte_at n 0) first_bytes) _ e in
    rw (another c first_bytes none (byte_at n 0) tests.0) (none_from c (suc k) ns none tests.1)

pub no_start : (c : ℕ) → NoneOf c first_bytes → start_of c ≡ None
unfolding start_of
no_start c none = none_from c 0 names none refl

-- two numbers with a lowest byte each are the same exactly if both parts are
pub same_parts : (b c x y : ℕ) → b < 256 → c < 256 → eqb (x * 256 + b) (c + 256 * y) ≡ (eqb b c && eqb x y)
same_parts b c x y p q = split (eqb b c) refl (eqb x y) refl
  where
    split : (u : Bool) → eqb b c ≡ u → (v : Bool) → eqb x y ≡ v → eqb (x * 256 + b) (c + 256 * y) ≡ (u && v)
    split true d true e = let one = eqb-true b c d in let two = eqb-true x y e in eq-eqb (x * 256 + b) (c + 256 * y) (omega arith)
    split true d false e = let two = eqb-false x y e in let one = eqb-true b c d in ne_eqb (x * 256 + b) (c + 256 * y) (λ z. two (omega arith))
    split false d v e = let one = eqb-false b c d in ne_eqb (x * 256 + b) (c + 256 * y) (λ z. one (omega arith))

module _ (t : List ℕ) (bytes : (i : ℕ) → byte_at t i < 256) where
  -- n bytes from a place on
  abbrev packed_at : ℕ → ℕ → ℕ
  packed_at zero at = 0
  packed_at (suc n) at = byte_at t at + 256 * packed_at n (at + 1)

  low_bits : (name : List ℕ) (i n at : ℕ) → all_from is_byte i name ≡ true → length name ≤ n
      → eqb (packed_at n at % 2 ^ (8 * length name)) (packed name) ≡ matches_at name t at
  low_bits [] i n at p h = rw mod-one
  low_bits (c ∷ cs) i zero at p h = absurd (not-suc-le-zero h)
  low_bits (c ∷ cs) i (suc n) at p h =
      let in_range = both (ltb c 256) _ p in
      let b = byte_at t at in
      let rest = packed_at n (at + 1) in
      let small = bytes at in
      let more : 8 * suc (length cs) ≡ 8 * length cs + 8 = omega arith in
      let upper : (b + 256 * rest) / 256 ≡ rest = omega arith in
      let lower : (b + 256 * rest) % 256 ≡ b = omega arith in
      rw (
        more,
        mod-pow-add (b + 256 * rest) (8 * length cs) 8,
        upper,
        lower,
        same_parts b c (rest % 2 ^ (8 * length cs)) (packed cs) small (ltb-true c 256 in_range.0),
        low_bits cs (suc i) n (at + 1) in_range.1 (omega arith),
      )

  five_is : (at : ℕ) → five_at t at ≡ packed_at 5 at
  five_is at =
      let two : at + 1 + 1 ≡ at + 2 = omega arith in
      let three : at + 2 + 1 ≡ at + 3 = omega arith in
      let four : at + 3 + 1 ≡ at + 4 = omega arith in
      rw (two, three, four)

  pub key_begins : (at k : ℕ) → k < 112 → eqb (five_at t at % 2 ^ (name_number k / 2 ^ 40)) (name_number k % 2 ^ (name_number k / 2 ^ 40)) ≡ matches_at (name_of k) t at
  key_begins at k h =
      let parts = number_parts k h in
      rw (parts.bits, parts.low, five_is at) (low_bits (name_of k) 0 5 at parts.bytes (name_length k h).1)

  pub key_first : (at : ℕ) → five_at t at % 256 ≡ byte_at t at
  key_first at = omega (arith, bytes at)
