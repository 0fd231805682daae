-- `write_text::nodes_limit`: the limit of a template is 256 bytes at the most.
use Rattle.std.proofs.Common.{arith}
use Rattle.base_settings.proofs.Most.{template_most}
use Rattle.write_text.proofs.nodes_limit.Goals as goal

pub overflow_mul-result : goal.overflow_mul-result
overflow_mul-result c = omega (arith, template_most c.args.set)
