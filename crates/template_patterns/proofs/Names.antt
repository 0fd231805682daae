-- The names of the patterns, by one computed test each, and a name compared byte after byte. Assumes nothing.
-- `name_length`: a name has 1 to 5 bytes. `name_is`: the names and the patterns have the same name at a number.
-- `at_letter`, `at_space`: a byte of a name's row is the name's, or a space past it.
-- `matches_not`: a name is not at a place where a byte is another.
-- `name_there`: a pattern's name that is at a place is in the text whole, as its bytes from there on.
use mathlib.Core.Path.{◌≡◌, refl, ◌∙◌, sym}
use mathlib.Core.Bool.{Bool, true, false, ◌&&◌, not}
use mathlib.Core.List.{List, [], ◌∷◌, ◌++◌}
use Prim.Native.Nat.{ℕ, suc, ◌+◌, ◌*◌, ◌<◌, ◌≤◌}
use native.Mathlib.Numerals.{add-one}
use native.Mathlib.Omega.{arith}
use borrow.Author.Tests.{ne_eqb, eqb-true, eqb-false, leb-true, ltb-true, ltb-false, not-true}
use lib.Dec.{eqb, leb, ltb}
use lib.ListN.{length, get_or, drop, get_or-map}
use lib.Seq.{drop-cons}
use Rattle.base_notation.proofs.Bytes.{byte_within}
use Rattle.base_notation.proofs.Cases.{both}
use Rattle.base_notation.proofs.Table.{all_from, entry}
use Rattle.base_notation.specs.Text.{byte_at}
use Rattle.template_patterns.specs.Patterns.{Pattern, patterns, names, name_of}
use Rattle.template_patterns.specs.Rows.{filled}
use Rattle.template_patterns.specs.Search.{matches_at, name_table}
use Rattle.template_patterns.proofs.Rows.{row_byte, in_name, past_name}

-- the name of number k, by either table
pub name_is : (k : ℕ) → get_or names k [] ≡ name_of k
name_is k = get_or-map (λ (p : Pattern). p.name) patterns k _

-- the two computed tests
abbrev sized : ℕ → List ℕ → Bool
sized k n = leb 1 (length n) && leb (length n) 5

abbrev spaceless : ℕ → List ℕ → Bool
spaceless k n = all_from (λ (j c : ℕ). not (eqb c 32)) 0 n

-- the first byte of a name
abbrev pub head : ℕ → ℕ
head k = byte_at (name_of k) 0

module _ (k : ℕ) (here : k < 112) where
  pub name_length : (1 ≤ length (name_of k)) × (length (name_of k) ≤ 5)
  name_length =
      let bounds = both (leb 1 (length (name_of k))) _ (rw (name_is k) at (entry sized [] names refl k here)) in
      (leb-true _ _ bounds.0, leb-true _ _ bounds.1)

  pub no_space : (j : ℕ) → j < length (name_of k) → get_or (name_of k) j 0 ≡ 32 → ⊥
  no_space j h =
      let passed : spaceless k (name_of k) ≡ true = rw (name_is k) at (entry spaceless [] names refl k here) in
      eqb-false _ _ (not-true _ (entry (λ (j c : ℕ). not (eqb c 32)) 0 (name_of k) passed j h))

  -- byte j of the name's row
  pub name_byte : (j : ℕ) → j < 5 → get_or name_table (5 * k + j) 0 ≡ get_or (filled 5 (name_of k)) j 0
  unfolding name_table
  name_byte j h = rw (← name_is k) (row_byte 5 names 0 k j refl here h)

  -- a space of the row is past the name
  pub at_space : (j : ℕ) → j < 5 → get_or name_table (5 * k + j) 0 ≡ 32 → length (name_of k) ≤ j
  at_space j h e = split (ltb j (length (name_of k))) refl
    where
      split : (b : Bool) → ltb j (length (name_of k)) ≡ b → length (name_of k) ≤ j
      split true q =
          let in_it = ltb-true _ _ q in
          absurd (no_space j in_it (sym (in_name 5 (name_of k) j in_it) ∙ sym (name_byte j h) ∙ e))
      split false q = ltb-false _ _ q

  -- any other byte of the row is the name's
  pub at_letter : (j : ℕ) → j < 5 → (get_or name_table (5 * k + j) 0 ≡ 32 → ⊥) → (j < length (name_of k)) × (get_or name_table (5 * k + j) 0 ≡ get_or (name_of k) j 0)
  at_letter j h n = split (ltb j (length (name_of k))) refl
    where
      split : (b : Bool) → ltb j (length (name_of k)) ≡ b → (j < length (name_of k)) × (get_or name_table (5 * k + j) 0 ≡ get_or (name_of k) j 0)
      split true q = let in_it = ltb-true _ _ q in (in_it, name_byte j h ∙ in_name 5 (name_of k) j in_it)
      split false q = absurd (n (name_byte j h ∙ past_name 5 (name_of k) j (ltb-false _ _ q) h))

-- one byte of the comparison
matches_at_step : (name t : List ℕ) (at j : ℕ) → j < length name → matches_at (drop j name) t (at + j) ≡ (eqb (byte_at t (at + j)) (get_or name j 0) && matches_at (drop (j + 1) name) t (at + (j + 1)))
matches_at_step name t at j h =
    let same : at + j + 1 ≡ at + (j + 1) = omega arith in
    rw (drop-cons name j 0 h, same, add-one j)

module _ (name t : List ℕ) (at j : ℕ) where
  -- the byte is another: the name is not there
  pub matches_not : j < length name → (byte_at t (at + j) ≡ get_or name j 0 → ⊥) → matches_at (drop j name) t (at + j) ≡ false
  matches_not h n = rw (matches_at_step name t at j h, ne_eqb _ _ n)

-- a name is in t from a place on, and the rest of t after it
pub record There (name t : List ℕ) (at : ℕ) : Type 0 where
  pub within : at + length name ≤ length t
  pub rest : drop at t ≡ name ++ drop (at + length name) t

-- no byte of a name is 0, which is read past the end of a text
abbrev positive : ℕ → ℕ → Bool
positive j c = ltb 0 c

bytes_there : (name t : List ℕ) (i at : ℕ) → all_from positive i name ≡ true → at ≤ length t → matches_at name t at ≡ true → There name t at
bytes_there [] t i at p h e = let same : at + 0 ≡ at = omega arith in record { within = omega arith; rest = rw same }
bytes_there (c ∷ cs) t i at p h e =
    let positive_bytes = both (ltb 0 c) _ p in
    let same_bytes = both (eqb (byte_at t at) c) _ e in
    let byte : byte_at t at ≡ c = eqb-true _ _ same_bytes.0 in
    let inside : at < length t = byte_within t at (λ z. omega (arith, ltb-true 0 c positive_bytes.0, byte)) in
    let after = bytes_there cs t (suc i) (at + 1) positive_bytes.1 (omega arith) same_bytes.1 in
    let same : at + 1 + length cs ≡ at + suc (length cs) = omega arith in
    record {
      within = omega (arith, after.within);
      rest = drop-cons t at 0 inside ∙ rw (byte, ← add-one at, after.rest, same);
    }

pub name_there : (k : ℕ) → k < 112 → (t : List ℕ) (at : ℕ) → at ≤ length t → matches_at (name_of k) t at ≡ true → There (name_of k) t at
name_there k here t at h e =
    bytes_there (name_of k) t 0 at
    (rw (name_is k) at (entry (λ (j : ℕ) (n : List ℕ). all_from positive 0 n) [] names refl k here)) h e
