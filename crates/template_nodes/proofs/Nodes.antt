-- The number of a template's nodes, and the bits of their affixes. Assumes nothing.
-- `count_within`: there is at most one for each byte, since a step makes one at most.
-- `small_nodes`: the bits of their prefixes and suffixes are below that of the mode.
-- `plain_nodes`: without the accents mode every node says so.
use mathlib.Core.Path.{◌≡◌, refl}
use mathlib.Core.Bool.{Bool, true, false, not, ◌&&◌, beq}
use mathlib.Core.List.{List, [], ◌∷◌, ◌++◌}
use Prim.Native.Nat.{ℕ, zero, suc, ◌+◌, ◌≤◌, ◌<◌}
use native.Mathlib.Omega.{arith}
use borrow.Author.Tests.{ltb-true}
use lib.Bits.{bit_or, or_lt}
use lib.Dec.{eqb, ltb}
use lib.ListN.{length, length-append}
use Rattle.std.specs.Prelude.{Option, None, Some}
use Rattle.base_notation.specs.Text.{byte_at}
use Rattle.base_notation.proofs.Cases.{both, by_if}
use Rattle.base_notation.proofs.Table.{all_from}
use Rattle.template_patterns.specs.Affixes.{Affix, affixes, affix_length, bit_at, bit_from}
use Rattle.template_patterns.specs.Search.{matches_at, pattern_at}
use Rattle.template_patterns.specs.declared.Found.{Found}
use Rattle.template_nodes.specs.Bytes.{mode_bit}
use Rattle.template_nodes.specs.Template.{element_of, in_list, in_mode, literal, literal_at, made_by, nodes_by, nodes_from, nodes_of, pattern, plain_at, quote, skip, step_at}
use Rattle.template_nodes.specs.declared.Node.{Node}
use Rattle.template_nodes.specs.declared.Step.{Step}
use Rattle.template_nodes.proofs.Encoding.{All, Small}
use Rattle.template_nodes.proofs.Steps.{made_one}

at_most : (accents : Bool) (fuel : ℕ) (t : List ℕ) (at : ℕ) (quoted : Bool) → length (nodes_from accents fuel t at quoted) ≤ fuel
unfolding nodes_from
at_most accents zero t at quoted = omega arith
at_most accents (suc fuel) t at quoted =
    let s = step_at accents t at quoted in
    let rest = nodes_from accents fuel t s.next s.quoted in
    by_if (λ (l : List Node). length l ≤ suc fuel) (ltb at (length t)) (made_by s ++ rest) []
    (λ e. omega (arith, length-append (made_by s) rest, made_one s.made, at_most accents fuel t s.next s.quoted))
    (λ e. omega arith)

module _ (accents : Bool) (t : List ℕ) where
  pub count_within : length (nodes_by accents t) ≤ length t
  unfolding nodes_by
  count_within = at_most accents (length t) t 0 false

-- the bit of an affix
bits_small : (wanted : Bool) (t : List ℕ) (at i : ℕ) (l : List Affix) → all_from (λ (k : ℕ) (a : Affix). ltb a.bit mode_bit) i l ≡ true
    → bit_from l wanted t at < mode_bit
bits_small wanted t at i [] e = omega arith
bits_small wanted t at i (a ∷ l) e =
    let tests = both (ltb a.bit mode_bit) _ e in
    by_if (λ (b : ℕ). b < mode_bit) (beq a.is_prefix wanted && matches_at a.name t at) a.bit (bit_from l wanted t at)
    (λ q. ltb-true a.bit mode_bit tests.0) (λ q. bits_small wanted t at (suc i) l tests.1)

bit_small : (wanted : Bool) (t : List ℕ) (at : ℕ) → bit_at wanted t at < mode_bit
unfolding bit_at
bit_small wanted t at = bits_small wanted t at 0 affixes refl

-- what holds of the node of every step holds of every node
module _ (accents : Bool) (t : List ℕ) (P : Node → Type 0) (step : (at : ℕ) (quoted : Bool) → All P (made_by (step_at accents t at quoted))) where
  made : (o : Option Node) → All P (in_list o) → (ns : List Node) → All P ns → All P (in_list o ++ ns)
  made (Some n) h ns rest = (h.0, rest)
  made None h ns rest = rest

  each_from : (fuel at : ℕ) (quoted : Bool) → All P (nodes_from accents fuel t at quoted)
  unfolding nodes_from
  each_from zero at quoted = tt
  each_from (suc fuel) at quoted =
      let s = step_at accents t at quoted in
      by_if (All P) (ltb at (length t)) _ [] (λ e. made s.made (step at quoted) _ (each_from fuel s.next s.quoted)) (λ e. tt)

  each_node : All P (nodes_by accents t)
  unfolding nodes_by
  each_node = each_from (length t) 0 false

-- the node of a step: a literal, or a pattern with the bits of its affixes
module _ (accents : Bool) (t : List ℕ) (P : Node → Type 0) (of_literal : (kind at n : ℕ) → P (in_mode accents (literal kind at n)))
    (of_pattern : (at n k prefix suffix : ℕ) → prefix < mode_bit → suffix < mode_bit → P (in_mode accents (pattern at n k (bit_or prefix suffix)))) where
  abbrev Holds : Step → Type 0
  Holds s = All P (made_by s)

  literal_holds : (at : ℕ) (quoted : Bool) → Holds (literal_at accents t at quoted)
  unfolding literal_at
  literal_holds at quoted =
      by_if Holds (eqb (byte_at t at) quote) (skip (at + 1) (not quoted)) _ (λ e. tt) (λ e. (of_literal _ _ _, tt))

  element_holds : (at prefix : ℕ) (f : Option Found) → prefix < mode_bit → Holds (element_of accents f t at prefix)
  element_holds at prefix None h = literal_holds at false
  element_holds at prefix (Some f) h =
      (of_pattern at f.len f.number prefix (bit_at false t (at + f.len)) h (bit_small false t (at + f.len)), tt)

  plain_holds : (at : ℕ) → Holds (plain_at accents t at)
  unfolding plain_at
  plain_holds at =
      let start = at + affix_length (bit_at true t at) in
      by_if Holds (ltb start (length t)) _ (skip start false)
      (λ e. element_holds start (bit_at true t at) (pattern_at t start) (bit_small true t at)) (λ e. tt)

  step_holds : (at : ℕ) (quoted : Bool) → Holds (step_at accents t at quoted)
  unfolding step_at
  step_holds at true = literal_holds at true
  step_holds at false = plain_holds at

  by_step : All P (nodes_by accents t)
  by_step = each_node accents t P step_holds

pub small_nodes : (accents : Bool) (t : List ℕ) → Small (nodes_by accents t)
small_nodes accents t =
    by_step accents t (λ (n : Node). n.suffix < mode_bit) (λ kind at n. omega arith)
    (λ at n k prefix suffix p q. or_lt 7 prefix suffix p q)

pub plain_nodes : (t : List ℕ) → All (λ (n : Node). n.accents ≡ false) (nodes_of t)
plain_nodes t = by_step false t (λ (n : Node). n.accents ≡ false) (λ kind at n. refl) (λ at n k prefix suffix p q. refl)
