-- `sorbilgan::with_settings::sorbilgan_compile_with` meets its contract: its two tests are the definition's, in the
-- same order. Assumes nothing.
use Rattle.std.proofs.Common.{◌∙◌, ap, sym}
use native.Mathlib.Omega.{arith}
use Rattle.base_settings.specs.Bits.{settings_of}
use Rattle.base_settings.specs.Limits.{template_limit}
use Rattle.base_settings.proofs.Most.{template_most}
use Rattle.sorbilgan.proofs.Compiling.{long, ill_formed, parsed}
use Rattle.sorbilgan.proofs.with_settings.sorbilgan_compile_with.Goals as goal

-- over the limit: -1
pub returns-then-template_limit-t : goal.returns-then-template_limit-t
returns-then-template_limit-t c =
    let limit = c.template_limit.ensures ∙ ap template_limit c.settings_of-set.ensures in
    long _ _ _ (omega (arith, limit))

-- not UTF-8: -2
pub returns-then-not-is_utf8 : goal.returns-then-not-is_utf8
returns-then-not-is_utf8 c =
    let limit = c.template_limit.ensures ∙ ap template_limit c.settings_of-set.ensures in
    ill_formed _ _ _ (omega (arith, limit)) (sym c.is_utf8.ensures ∙ c.if-not-is_utf8.true)

-- within its limit a template has at most 256 bytes
pub parse_format-requires : goal.parse_format-requires
parse_format-requires c =
    let limit = c.template_limit.ensures ∙ ap template_limit c.settings_of-set.ensures in
    (omega (arith, limit, template_most (settings_of c.args.settings)), omega arith)

-- the bytes of the nodes
pub returns : goal.returns
returns c =
    let limit = c.template_limit.ensures ∙ ap template_limit c.settings_of-set.ensures in
    parsed _ _ _ (omega (arith, limit)) (sym c.is_utf8.ensures ∙ c.if-not-is_utf8.false)
    (rw c.settings_of-set.ensures at c.parse_format.ensures)
