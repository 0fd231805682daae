-- `write_text::write`: what is no template is refused, and any other is written by its nodes.
use Rattle.std.proofs.Common.{◌∙◌, ℕ, List, ◌*◌, ◌≤◌, length, arith, sym, false}
use lib.ListN.{take}
use lib.Seq.{length-take-le}
use Rattle.base_settings.proofs.Most.{template_most}
use Rattle.template_nodes.specs.Bytes.{Parsed}
use Rattle.template_nodes.specs.Template.{nodes_of}
use Rattle.template_nodes.proofs.Encoding.{parsed_nodes, parsed_room}
use Rattle.template_nodes.proofs.Nodes.{count_within, small_nodes}
use Rattle.write_text.proofs.Answers.{too_long, not_utf8, by_nodes}
use Rattle.write_text.proofs.write.Goals as goal

-- the bytes of a template's nodes are six for each of its own at the most
few_bytes : {limit : ℕ} (t : List ℕ) {before after : List ℕ} {r : ℕ} → length t ≤ limit → Parsed (nodes_of t) before after r
    → length (take (6 * r) after) ≤ 6 * limit
few_bytes t {after = after} {r = r} short p =
    omega (arith, length-take-le (6 * r) after (parsed_room p), p.count, count_within false t)

-- the template is over its limit
pub returns-then-template_limit-t : goal.returns-then-template_limit-t
returns-then-template_limit-t c = too_long _ _ _ _ (omega arith)

-- the template is not UTF-8
pub returns-then-not-is_utf8 : goal.returns-then-not-is_utf8
returns-then-not-is_utf8 c = not_utf8 _ _ _ _ (omega arith) (sym c.is_utf8.ensures ∙ c.if-not-is_utf8.true)

-- within its limit a template has at most 256 bytes
pub parse_format-end-requires : goal.parse_format-end-requires
parse_format-end-requires c = (omega (arith, template_most c.args.set), omega arith)

-- the answer by the template's nodes
pub returns : goal.returns
returns c =
    let parsed = c.parse_format-end.ensures in
    by_nodes c.args.set c.args.t.now c.args.m c.args.out.now (omega arith) (sym c.is_utf8.ensures ∙ c.if-not-is_utf8.false)
    _ (few_bytes c.args.t.now (omega arith) parsed) (parsed_nodes parsed (small_nodes false c.args.t.now))
    c.write_by.ensures
