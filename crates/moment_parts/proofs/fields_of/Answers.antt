-- `moment_parts::fields_of` meets its contract: the tests are the definition's in its order, and what is
-- parsed is the template's nodes. Assumes nothing.
use Rattle.std.proofs.Common.{◌∙◌, sym}
use mathlib.Core.Path.{ap}
use native.Mathlib.Omega.{arith}
use Rattle.std.specs.Prelude.{List}
use Rattle.base_settings.proofs.Most.{template_most, input_most}
use Rattle.template_nodes.specs.declared.Node.{Node}
use Rattle.template_nodes.proofs.Encoding.{parsed_nodes}
use Rattle.template_nodes.proofs.Nodes.{small_nodes}
use Rattle.moment_parts.specs.Parts.{answer_by}
use Rattle.moment_parts.proofs.Limits.{bad_text, read_by}
use Rattle.moment_parts.proofs.fields_of.Goals as goal

-- the template or the input is not UTF-8
pub returns-then-not-are_utf8 : goal.returns-then-not-are_utf8
returns-then-not-are_utf8 c = sym (bad_text _ _ _ (omega arith) (omega arith) (sym c.are_utf8.ensures ∙ c.if-not-are_utf8.true))

-- within their limits a template has at most 256 bytes and an input at most 512
pub parse_format-end-requires : goal.parse_format-end-requires
parse_format-end-requires c = (omega (arith, template_most c.args.set), omega arith)

pub fields_within-requires : goal.fields_within-requires
fields_within-requires c = (omega (arith, input_most c.args.set), c.requires)

-- the input is read by the template's nodes
pub returns : goal.returns
returns c =
    c.fields_within.ensures _
    ∙ ap (λ (ns : List Node). answer_by c.args.set.strict ns c.args.t.now c.args.s.now) (parsed_nodes c.parse_format-end.ensures (small_nodes c.args.set.accents c.args.t.now))
    ∙ read_by _ _ _ (omega arith) (omega arith) (sym c.are_utf8.ensures ∙ c.if-not-are_utf8.false)
