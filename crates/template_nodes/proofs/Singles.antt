-- Bytes that are a step by themselves: those that are a node, and quotes. Assumes nothing.
-- `singles`: the set that `is_single` asks has those bytes. `single_kind`: a space is at most 32, a separator above.
-- `single_step`: outside quotes such a byte is a step that makes a node of one byte.
-- `quote_step`: a quote is a step that makes no node, in quotes and outside.
use mathlib.Core.Path.{◌≡◌, ◌∙◌, refl, sym, ap}
use mathlib.Core.Bool.{Bool, true, false, not, ◌&&◌, ◌||◌, false≢true}
use mathlib.Core.List.{List, []}
use Prim.Native.Nat.{ℕ, ◌+◌, ◌<◌, ◌≤◌}
use native.Mathlib.Nat.{add-zero}
use native.Mathlib.Omega.{arith}
use borrow.Author.Tests.{eqb-true, le-ltb, lt-ltb, ltb-true, ltb-false, ne_eqb, not-true}
use lib.Dec.{eqb, leb, ltb}
use lib.ListN.{length, replicate}
use Rattle.std.specs.Prelude.{None}
use Rattle.base_notation.proofs.Table.{all_from, entry}
use Rattle.base_notation.specs.Choice.{when◌then◌else◌}
use Rattle.base_notation.specs.Text.{byte_at}
use Rattle.base_accents.proofs.Measures.{plain_one}
use Rattle.base_chars.specs.Class.{class_of, is_letter}
use Rattle.base_chars.specs.Sets.{in_set}
use Rattle.base_chars.proofs.Sets.{set_is}
use Rattle.template_patterns.specs.Affixes.{bit_at}
use Rattle.template_patterns.specs.Patterns.{names}
use Rattle.template_patterns.specs.Search.{pattern_at}
use Rattle.template_patterns.proofs.Names.{head, name_is}
use Rattle.template_patterns.proofs.Search.{none_outside}
use Rattle.template_nodes.specs.Template.{char_place, in_mode, is_single, kind_of, literal, literal_at, make, plain_at, separator, skip, space, step_at}
use Rattle.template_nodes.proofs.Steps.{at_quote}

-- there is none from 64 on
wide_single : (b : ℕ) → 128 ≤ b → is_single b ≡ false
wide_single b h = rw (le-ltb b 64 (omega arith))

pub singles : (b : ℕ) → in_set 0xfc00fffb00003e00 0 b ≡ is_single b
unfolding in_set class_of
singles = set_is 0xfc00fffb00003e00 0 is_single refl wide_single

-- what a computed test says of such bytes
abbrev implies : Bool → Bool → Bool
implies a b = not a || b

of_singles : (f : ℕ → Bool) → all_from (λ (b x : ℕ). implies (is_single b) (f b)) 0 (replicate 128 0) ≡ true → (b : ℕ) → is_single b ≡ true → f b ≡ true
of_singles f test b e = split (ltb b 128) refl
  where
    split : (q : Bool) → ltb b 128 ≡ q → f b ≡ true
    split true q = rw e at (entry (λ (b x : ℕ). implies (is_single b) (f b)) 0 (replicate 128 0) test b (ltb-true b 128 q))
    split false q = absurd (false≢true (sym (wide_single b (ltb-false b 128 q)) ∙ e))

module _ (b : ℕ) (e : is_single b ≡ true) where
  small : b < 128
  unfolding class_of
  small = ltb-true b 128 (of_singles (λ (b : ℕ). ltb b 128) refl b e)

  no_letter_lem : is_letter b ≡ false
  unfolding class_of
  no_letter_lem = not-true (is_letter b) (of_singles (λ (b : ℕ). not (is_letter b)) refl b e)

  no_quote : eqb b 34 ≡ false
  unfolding class_of
  no_quote = not-true (eqb b 34) (of_singles (λ (b : ℕ). not (eqb b 34)) refl b e)

  no_backslash : eqb b 92 ≡ false
  unfolding class_of
  no_backslash = not-true (eqb b 92) (of_singles (λ (b : ℕ). not (eqb b 92)) refl b e)

  pub single_kind : kind_of b ≡ (when leb b 32 then space else separator)
  unfolding kind_of class_of
  single_kind = eqb-true _ _ (of_singles (λ (b : ℕ). eqb (kind_of b) (when leb b 32 then space else separator)) refl b e)

-- every name begins with a letter
head_letter : (k : ℕ) → k < 112 → is_letter (head k) ≡ true
unfolding class_of
head_letter k h = rw (name_is k) at (entry (λ (k : ℕ) (n : List ℕ). is_letter (byte_at n 0)) [] names refl k h)

-- and so does every prefix
no_prefix : (t : List ℕ) (at : ℕ) → is_letter (byte_at t at) ≡ false → bit_at true t at ≡ 0
unfolding bit_at class_of
no_prefix t at e =
    let another : (c : ℕ) → is_letter c ≡ true → eqb (byte_at t at) c ≡ false = λ c l. ne_eqb (byte_at t at) c (λ q. false≢true (sym e ∙ ap is_letter q ∙ l)) in
    simp (another 70 refl, another 102 refl, another 84 refl, another 116 refl)

-- no pattern is where no letter is
no_pattern : (t : List ℕ) (at : ℕ) → is_letter (byte_at t at) ≡ false → pattern_at t at ≡ None
no_pattern t at e = none_outside t at (λ j k q. false≢true (sym e ∙ ap is_letter (sym q) ∙ head_letter j k))

module _ (accents : Bool) (t : List ℕ) (at : ℕ) (h : at < length t) where
  pub single_step : (quoted : Bool) → (not quoted && is_single (byte_at t at)) ≡ true
      → make (in_mode accents (literal (kind_of (byte_at t at)) at 1)) (at + 1) quoted ≡ step_at accents t at quoted
  unfolding step_at plain_at literal_at char_place
  single_step true e = absurd (false≢true e)
  single_step false e =
      let b = byte_at t at in
      let plain = no_letter_lem b e in
      rw (no_prefix t at plain, add-zero at, lt-ltb at (length t) h, no_pattern t at plain, no_quote b e, no_backslash b e, plain_one t at accents h (small b e) plain)

  pub quote_step : (quoted : Bool) → byte_at t at ≡ 34 → skip (at + 1) (not quoted) ≡ step_at accents t at quoted
  unfolding step_at plain_at class_of
  quote_step true e = sym (at_quote accents t at true e)
  quote_step false e =
      let plain : is_letter (byte_at t at) ≡ false = rw e in
      rw (no_prefix t at plain, add-zero at, lt-ltb at (length t) h, no_pattern t at plain) (sym (at_quote accents t at false e))
