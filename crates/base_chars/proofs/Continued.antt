-- The continuations of a sequence, from the third byte on. Assumes nothing.
-- `begun`: a byte in a range at a place is within the text.
-- `first_on`: a row is its second byte's range and the continuations after it.
-- `one_more`, `one_less`: where a continuation is due, the rest decides if there is one, and none does without.
use Rattle.std.proofs.Common.{◌≡◌, ℕ, suc, ◌+◌, ◌-◌, ◌<◌, true, false, ◌&&◌, List, [], ◌∷◌, length, drop, replicate, ltb, refl, add_assoc, arith, ltb-true, ltb-false}
use Rattle.std.proofs.lemmas.Bool.{false≢true}
use lib.ListN.{drop_of_length-le}
use Rattle.base_chars.specs.Range.{Range, ◌‥◌}
use Rattle.base_chars.specs.Utf8.{begins}
use Rattle.base_chars.proofs.Sequences.{begins_on}

-- the ranges of n continuations
abbrev pub continued : ℕ → List Range
continued n = replicate n (0x80 ‥ 0xbf)

pub begun : (r : Range) (s : List ℕ) (at : ℕ) → begins (r ∷ []) (drop at s) ≡ true → at < length s
begun r s at e =
    (elim (ltb at (length s)) as (λ t. ltb at (length s) ≡ t → at < length s) [
      | true ↦ λ q. ltb-true _ _ q
      | false ↦ λ q. absurd (false≢true (rw (drop_of_length-le s (ltb-false _ _ q)) at e))
    ]) refl

pub first_on
    : (r : Range) (s : List ℕ) (at n : ℕ)
    → begins (r ∷ continued n) (drop (at + 1) s) ≡ (begins (r ∷ []) (drop (at + 1) s) && begins (continued n) (drop (at + 2) s))
first_on r s at n = rw (begins_on r (continued n) s (at + 1), add_assoc at 1 1)

module _ (s : List ℕ) (at k n : ℕ) (due : k < n) where
  another : n - k ≡ suc (n - (k + 1))
  another = omega arith

  pub one_more
      : begins (continued 1) (drop (at + k) s) ≡ true
      → begins (continued (n - k)) (drop (at + k) s) ≡ begins (continued (n - (k + 1))) (drop (at + (k + 1)) s)
  one_more e = rw (another, begins_on (0x80 ‥ 0xbf) (continued (n - (k + 1))) s (at + k), e, add_assoc at k 1)

  pub one_less : begins (continued 1) (drop (at + k) s) ≡ false → begins (continued (n - k)) (drop (at + k) s) ≡ false
  one_less e = rw (another, begins_on (0x80 ‥ 0xbf) (continued (n - (k + 1))) s (at + k), e)
