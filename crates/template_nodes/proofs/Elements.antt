-- What the compiler finds at a place is the step of the definitions. Assumes nothing.
-- `step_of`: the step that an element makes, with the literal if it is no pattern. `element_step`: it is the step there.
-- `found_step`, `rest_step`: so it is for a pattern, and for no pattern. `goes_on`: a step takes at least one byte.
use mathlib.Core.Path.{◌≡◌, refl}
use mathlib.Core.Bool.{Bool, true, false}
use mathlib.Core.List.{List}
use Prim.Native.Nat.{ℕ, ◌+◌, ◌<◌, ◌≤◌}
use native.Mathlib.Omega.{arith}
use borrow.Author.Tests.{lt-ltb, ltb-true, ltb-false}
use lib.Dec.{ltb}
use lib.ListN.{length}
use Rattle.std.specs.Prelude.{Option, None, Some}
use Rattle.base_notation.specs.Choice.{when◌then◌else◌}
use Rattle.template_patterns.specs.Affixes.{affix_length, bit_at}
use Rattle.template_patterns.specs.Search.{pattern_at}
use Rattle.template_patterns.specs.declared.Found.{Found}
use Rattle.template_nodes.specs.Elements.{element_from, element_in, nowhere, rest_at}
use Rattle.template_nodes.specs.Template.{element_of, in_mode, make, pattern, plain_at, skip, step_at}
use Rattle.template_nodes.specs.declared.Element.{Element}
use Rattle.template_nodes.specs.declared.Node.{Node}
use Rattle.template_nodes.specs.declared.Pattern.{Pattern}
use Rattle.template_nodes.specs.declared.Step.{Step}

-- the node of a pattern
abbrev pub node_of : Bool → Pattern → Node
node_of accents p = in_mode accents (pattern p.start p.len p.number p.bits)

-- that node, or the rest
abbrev step_by : Bool → List ℕ → Bool → ℕ → Option Pattern → Step
step_by accents t quoted next (Some p) = make (node_of accents p) next quoted
step_by accents t quoted next None = rest_at accents t next quoted

abbrev pub step_of : Bool → List ℕ → Bool → Element → Step
step_of accents t quoted e = step_by accents t quoted e.next e.pattern

-- a step that goes on from p, and takes a byte unless that is the end, goes on from before it
pub goes_on : (size at p next : ℕ) → at < size → at ≤ p → p ≤ next → (p < size → p < next) → at < next
goes_on size at p next h l m f = split (ltb p size) refl
  where
    split : (q : Bool) → ltb p size ≡ q → at < next
    split true q = let more = f (ltb-true p size q) in omega arith
    split false q = let past = ltb-false p size q in omega arith

module _ (accents : Bool) (t : List ℕ) (at : ℕ) (h : at < length t) where
  pub element_step : (quoted : Bool) → step_of accents t quoted (element_from t at quoted) ≡ step_at accents t at quoted
  unfolding step_at plain_at
  element_step true = rw (lt-ltb at (length t) h)
  element_step false = by (ltb start (length t)) refl (pattern_at t start)
    where
      start : ℕ
      start = at + affix_length (bit_at true t at)

      by : (q : Bool) → ltb start (length t) ≡ q → (f : Option Found)
          → step_of accents t false (when q then element_in f t start (bit_at true t at) else nowhere start) ≡ (when q then element_of accents f t start (bit_at true t at) else skip start false)
      by true e (Some f) = refl
      by true e None = rw e
      by false e f = rw e

  -- the same for what was found there
  module _ (quoted : Bool) (e : Element) (is : e ≡ element_from t at quoted) where
    pub found_step : (p : Pattern) → e.pattern ≡ Some p → make (node_of accents p) e.next quoted ≡ step_at accents t at quoted
    found_step p q = rw (← is, q) at (element_step quoted)

    pub rest_step : e.pattern ≡ None → rest_at accents t e.next quoted ≡ step_at accents t at quoted
    rest_step q = rw (← is, q) at (element_step quoted)
