-- Which pattern a refusal names: none, or one of the template's.
use Rattle.std.specs.Prelude.{◌≡◌, refl, List, [], ◌∷◌, ◌⊎◌, ℕ, ltb, Err, Ok, Result}
use Rattle.std.proofs.Common.{inl, inr, ⊎_elim, arith}
use Rattle.base_notation.specs.Choice.{when◌then◌else◌}
use Rattle.base_notation.specs.Text.{utf8}
use Rattle.base_refusals.specs.Report.{no_pattern, report_of}
use Rattle.base_refusals.specs.declared.Refusal.TheVariants.{NoYear, Short}
use Rattle.template_patterns.specs.Patterns.{name_of}
use Rattle.template_nodes.specs.Examples.{nodes_compute}
use Rattle.template_nodes.specs.Template.{action, nodes_of}
use Rattle.template_nodes.specs.declared.Node.{Node}
use Rattle.moment_parts.specs.Report.{unread_report}
use Rattle.moment_parts.specs.declared.Unread.{Unread}
use Rattle.moment_parts.specs.declared.Unread.TheVariants.{By, NoSuchDay}
use Rattle.moment_parts.specs.declared.Parts.{Parts}

-- a pattern by its name, or - for none
unfoldable pub pattern_name : ℕ → List ℕ
pattern_name p = when ltb p no_pattern then name_of p else utf8 "-"

-- a number is that of a pattern among nodes
abbrev pub PatternIn : List Node → ℕ → Type 0
PatternIn [] k = ⊥
PatternIn (n ∷ ns) k = ((n.kind ≡ action) × (n.pattern ≡ k)) ⊎ PatternIn ns k

-- a number is that of no pattern, or of one among nodes
abbrev pub NoneOrIn : List Node → ℕ → Type 0
NoneOrIn ns k = (k ≡ no_pattern) ⊎ PatternIn ns k

-- a refusal names no pattern, or one among nodes
abbrev pub NamedBy : List Node → Unread → Type 0
NamedBy ns why = NoneOrIn ns (unread_report why).pattern

-- so does an answer, if it is a refusal
abbrev pub NamesOwn : List Node → Result Parts Unread → Type 0
NamesOwn ns (Ok p) = Unit {0}
NamesOwn ns (Err why) = NamedBy ns why

-- by the template -DD a day that is too short names DD, the second node; a missing year and a day that its month never
-- has name none
pub worked : NamedBy (nodes_of (utf8 "-DD")) (By (Short 9 2 1)) × NamedBy (nodes_of (utf8 "-DD")) (By NoYear) × NamedBy (nodes_of (utf8 "-DD")) NoSuchDay
unfolding unread_report report_of nodes_compute
worked = (inr (inr (inl (refl, refl))), inl refl, inl refl)

-- DD is no pattern of DDD; a literal has the number 0 and is no pattern
pub others : (PatternIn (nodes_of (utf8 "DDD")) 9 → ⊥) × (PatternIn (nodes_of (utf8 "-")) 0 → ⊥)
unfolding nodes_compute
others = (⊎_elim (λ h. omega (arith, h.1)) (λ h. h), ⊎_elim (λ h. omega (arith, h.0)) (λ h. h))
