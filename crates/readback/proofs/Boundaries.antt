-- Where characters begin in a template. Names, affixes, quotes and backslashes are ASCII, so after one of them another
-- character begins. Assumes nothing.
-- `Boundary`: a character begins at a place, or the text ends there.
-- `past_byte`: an ASCII byte other than 0 is within the text, and a character begins after it.
-- `past_affix`, `past_pattern`: a character begins after an affix, if there is one, and after a pattern's name.
use mathlib.Core.Path.{◌≡◌, ◌∙◌, refl, sym}
use mathlib.Core.Bool.{Bool, true, ◌&&◌, beq}
use mathlib.Core.List.{List, [], ◌∷◌}
use Prim.Native.Nat.{ℕ, suc, ◌+◌, ◌≤◌, ◌<◌}
use native.Mathlib.Nat.{add-zero}
use native.Mathlib.Omega.{arith}
use borrow.Author.Tests.{eqb-true}
use lib.Dec.{eqb}
use lib.ListN.{length, drop}
use lib.Seq.{drop-cons}
use Rattle.base_notation.specs.Text.{byte_at}
use Rattle.base_notation.proofs.Cases.{both, by_if}
use Rattle.base_notation.proofs.Table.{all_from, entry}
use Rattle.base_chars.specs.Range.{◌‥◌, ◌∈◌}
use Rattle.base_chars.specs.Utf8.{well_formed}
use Rattle.base_chars.proofs.Ranges.{inside, bounds}
use Rattle.base_chars.proofs.Sequences.{ascii}
use Rattle.base_chars.proofs.WellFormed.{past_sequence_at}
use Rattle.template_patterns.specs.Affixes.{Affix, affixes, affix_length, bit_at, bit_from}
use Rattle.template_patterns.specs.Patterns.{names, name_of}
use Rattle.template_patterns.specs.Search.{matches_at}
use Rattle.template_patterns.proofs.Names.{name_is}
use Rattle.base_notation.proofs.Bytes.{byte_within}

pub record Boundary (t : List ℕ) (at : ℕ) : Type 0 where
  pub within : at ≤ length t
  pub begins : well_formed (drop at t) ≡ true

-- bytes are ASCII and not 0
abbrev plain : List ℕ → Bool
plain name = all_from (λ (j c : ℕ). c ∈ 1 ‥ 127) 0 name

module _ (t : List ℕ) where
  pub past_byte : (at c : ℕ) → c ∈ 1 ‥ 127 ≡ true → byte_at t at ≡ c → Boundary t at → (at < length t) × Boundary t (at + 1)
  past_byte at c r e b =
      let range = bounds (1 ‥ 127) c r in
      let h : at < length t = byte_within t at (λ q. omega (arith, sym e ∙ q)) in
      let one = ascii (byte_at t at) (drop (suc at) t) (inside (0 ‥ 127) (byte_at t at) (omega arith) (omega arith)) in
      (h, record { within = omega arith; begins = past_sequence_at t at 1 (rw (drop-cons t at 0 h) (sym one)) ∙ b.begins })

  -- a name is at the place: a character begins after it
  pub past_name : (name : List ℕ) (i at : ℕ) → all_from (λ (j c : ℕ). c ∈ 1 ‥ 127) i name ≡ true → matches_at name t at ≡ true → Boundary t at
      → Boundary t (at + length name)
  past_name [] i at p e b = rw (add-zero at) b
  past_name (c ∷ cs) i at p e b =
      let ascii_bytes = both (c ∈ 1 ‥ 127) _ p in
      let same_bytes = both (eqb (byte_at t at) c) _ e in
      let next = past_byte at c ascii_bytes.0 (eqb-true _ _ same_bytes.0) b in
      let same : at + 1 + length cs ≡ at + suc (length cs) = omega arith in
      rw same at (past_name cs (suc i) (at + 1) ascii_bytes.1 same_bytes.1 next.1)

  module _ (at : ℕ) (b : Boundary t at) where
    -- the first of some affixes, each of two ASCII bytes
    past_affixes : (wanted : Bool) (l : List Affix) (i : ℕ) → all_from (λ (j : ℕ) (a : Affix). eqb (length a.name) 2 && plain a.name) i l ≡ true
        → Boundary t (at + affix_length (bit_from l wanted t at))
    past_affixes wanted [] i p = rw (add-zero at) b
    past_affixes wanted (a ∷ l) i p =
        let here = both (eqb (length a.name) 2 && plain a.name) _ p in
        by_if (λ (n : ℕ). Boundary t (at + affix_length n)) (beq a.is_prefix wanted && matches_at a.name t at) a.bit (bit_from l wanted t at)
        (λ e. by_if (λ (n : ℕ). Boundary t (at + n)) (eqb a.bit 0) 0 2 (λ z. rw (add-zero at) b)
        (λ z. let two_bytes = both (eqb (length a.name) 2) _ here.0 in
        rw (eqb-true (length a.name) 2 two_bytes.0) at (past_name a.name 0 at two_bytes.1 (both (beq a.is_prefix wanted) _ e).1 b)))
        (λ e. past_affixes wanted l (suc i) here.1)

    pub past_affix : (wanted : Bool) → Boundary t (at + affix_length (bit_at wanted t at))
    unfolding bit_at
    past_affix wanted = past_affixes wanted affixes 0 refl

    pub past_pattern : (k : ℕ) → k < 112 → matches_at (name_of k) t at ≡ true → Boundary t (at + length (name_of k))
    past_pattern k h e = past_name (name_of k) 0 at (rw (name_is k) at (entry (λ (j : ℕ) (n : List ℕ). plain n) [] names refl k h)) e b
