-- The affix at a place is that of its two letters. Assumes nothing.
-- `by_letters`: the bit at a place is that of the two letters there. `none_past`: past the end there is none.
-- `none_below`: no affix begins with a byte below F.
-- `affix_there`: its letters are in the text, whole.
use mathlib.Core.Path.{◌≡◌, ◌∙◌, refl, sym}
use mathlib.Core.Bool.{Bool, true, false, and-false}
use mathlib.Core.List.{List, [], ◌∷◌}
use Prim.Native.Nat.{ℕ, suc, ◌+◌, ◌≤◌, ◌<◌}
use native.Mathlib.Numerals.{add-one}
use native.Mathlib.Omega.{arith}
use borrow.Author.Tests.{eqb-true, eqb-false, ne_eqb}
use lib.Dec.{eqb}
use lib.ListN.{length, get_or-eq_default}
use lib.Seq.{drop-cons}
use Rattle.base_notation.proofs.Bytes.{byte_within}
use Rattle.base_notation.specs.Text.{byte_at}
use Rattle.template_patterns.specs.Affixes.{affix_length, bit_at}
use Rattle.template_patterns.proofs.Names.{There}

pub by_letters : (wanted : Bool) (t : List ℕ) (at : ℕ) → bit_at wanted t at ≡ bit_at wanted (byte_at t at ∷ byte_at t (at + 1) ∷ []) 0
unfolding bit_at
by_letters wanted t at = refl

-- there is none past the end
pub none_past : (wanted : Bool) (t : List ℕ) (at : ℕ) → length t ≤ at → bit_at wanted t at ≡ 0
unfolding bit_at
none_past true t at h = simp (get_or-eq_default t 0 h)
none_past false t at h = simp (get_or-eq_default t 0 h)

-- every affix begins with F or a later letter
below : (b c : ℕ) → b < 70 → 70 ≤ c → eqb b c ≡ false
below b c h l = ne_eqb b c (λ q. omega arith)

pub none_below : (wanted : Bool) (t : List ℕ) (at : ℕ) → byte_at t at < 70 → bit_at wanted t at ≡ 0
unfolding bit_at
none_below true t at h = simp (below _ 70 h (omega arith), below _ 102 h (omega arith), below _ 84 h (omega arith), below _ 116 h (omega arith))
none_below false t at h = simp (below _ 84 h (omega arith), below _ 116 h (omega arith), below _ 83 h (omega arith))

-- an affix has a second letter
second_letter : (wanted : Bool) (a b : ℕ) → b ≡ 0 → bit_at wanted (a ∷ b ∷ []) 0 ≡ 0
unfolding bit_at
second_letter true a b e = simp (e, and-false)
second_letter false a b e = simp (e, and-false)

-- nothing, or the letters of the affix at a place: they have its bit
pub record AffixThere (wanted : Bool) (t : List ℕ) (at : ℕ) : Type 0 where
  pub name : List ℕ
  pub there : There name t at
  pub size : length name ≡ affix_length (bit_at wanted t at)
  pub same : bit_at wanted name 0 ≡ bit_at wanted t at

pub affix_there : (wanted : Bool) (t : List ℕ) (at : ℕ) → at ≤ length t → AffixThere wanted t at
affix_there wanted t at h = by (eqb (bit_at wanted t at) 0) refl
  where
    by : (z : Bool) → eqb (bit_at wanted t at) 0 ≡ z → AffixThere wanted t at
    by true e =
        let same : at + 0 ≡ at = omega arith in
        record {
          name = [];
          there = record { within = omega arith; rest = rw same };
          size = rw e;
          same = none_past wanted [] 0 (omega arith) ∙ sym (eqb-true _ _ e);
        }
    by false e =
        let inside : at + 1 < length t =
        byte_within t (at + 1) (λ z. eqb-false _ _ e (by_letters wanted t at ∙ second_letter wanted (byte_at t at) (byte_at t (at + 1)) z)) in
        let two : suc (at + 1) ≡ at + 2 = omega arith in
        record {
          name = byte_at t at ∷ byte_at t (at + 1) ∷ [];
          there = record {
            within = omega arith;
            rest = drop-cons t at 0 (omega arith) ∙ rw (← add-one at, drop-cons t (at + 1) 0 inside, two);
          };
          size = rw e;
          same = sym (by_letters wanted t at);
        }
