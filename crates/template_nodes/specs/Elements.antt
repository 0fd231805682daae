-- What is at a place outside quotes, as the compiler looks for it: a pattern first, and then a literal.
use Rattle.std.specs.Prelude.{◌≡◌, refl, Bool, true, false, List, ℕ, ◌+◌, ◌<◌, ◌≤◌, ltb, length, Option, None, Some}
use Rattle.std.specs.Int.Bits.{bit_or}
use Rattle.base_notation.specs.Choice.{when◌then◌else◌}
use Rattle.base_notation.specs.Text.{utf8}
use Rattle.template_patterns.specs.Affixes.{affix_length, bit_at}
use Rattle.template_patterns.specs.Search.{pattern_at}
use Rattle.template_patterns.specs.declared.Found.{Found}
use Rattle.template_nodes.specs.Template.{literal_at, skip}
use Rattle.template_nodes.specs.declared.Element.{Element}
use Rattle.template_nodes.specs.declared.Pattern.{Pattern}
use Rattle.template_nodes.specs.declared.Step.{Step}

-- no pattern, and where the step goes on
abbrev pub nowhere : ℕ → Element
nowhere next = record { pattern = None; next = next }

-- a pattern's name at a place, and the suffix after it
abbrev pub named_at : List ℕ → ℕ → ℕ → Found → Element
named_at t at prefix found =
    let suffix = bit_at false t (at + found.len) in
    record {
      pattern = Some (record { start = at; len = found.len; number = found.number; bits = bit_or prefix suffix });
      next = at + found.len + affix_length suffix;
    }

-- the pattern that was found, or none
abbrev pub element_in : Option Found → List ℕ → ℕ → ℕ → Element
element_in (Some found) t at prefix = named_at t at prefix found
element_in None t at prefix = nowhere at

-- outside quotes a prefix, if there is one, and the pattern after it; in quotes there is no pattern
abbrev pub element_from : List ℕ → ℕ → Bool → Element
element_from t at quoted =
    when quoted then nowhere at
    else (let prefix = bit_at true t at in
    let start = at + affix_length prefix in
    when ltb start (length t) then element_in (pattern_at t start) t start prefix else nowhere start)

-- r is the element e from a place on; a pattern takes at least one byte
pub record Made (at : ℕ) (e r : Element) : Type 0 where
  pub is : r ≡ e
  pub from : at ≤ r.next
  pub on : (p : Pattern) → r.pattern ≡ Some p → at < r.next

-- a literal, or nothing at the end
abbrev pub rest_at : Bool → List ℕ → ℕ → Bool → Step
rest_at accents t at quoted = when ltb at (length t) then literal_at accents t at quoted else skip at quoted

-- r is the step s from a place on, which takes at least one byte before the end
pub record Rested (size at : ℕ) (s r : Step) : Type 0 where
  pub is : r ≡ s
  pub from : at ≤ r.next
  pub on : at < size → at < r.next

-- FM before Month; in quotes there is none
pub worked : (element_from (utf8 "FMMonth") 0 false ≡ record { pattern = Some (record { start = 2; len = 5; number = 37; bits = 1 }); next = 7 }) × (element_from (utf8 "DD") 0 true ≡ nowhere 0)
unfolding bit_at pattern_at
worked = (refl, refl)
