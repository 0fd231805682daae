-- `template_patterns::fmt_suffix_search` meets its contract: an affix has two letters, the first of them F or a later
-- one. Assumes nothing.
use mathlib.Core.Path.{sym}
use mathlib.Core.Bool.{true, false}
use Rattle.template_patterns.proofs.Affixes.{by_letters, none_below}
use Rattle.template_patterns.proofs.fmt_suffix_search.Goals as goal

-- a byte that no affix begins with
pub returns-then-a-lt70 : goal.returns-then-a-lt70
returns-then-a-lt70 c =
    sym (none_below c.args.prefix c.args.t.now c.args.at (rw c.byte_at-a.ensures at c.if-a-lt70.true))

-- a prefix is wanted
pub returns-then-prefix : goal.returns-then-prefix
returns-then-prefix c =
    rw (c.if-prefix.true, by_letters true c.args.t.now c.args.at, ← c.byte_at-a.ensures, ← c.byte_at-b.ensures) c.prefix_bit.ensures

-- a suffix is wanted
pub returns-else-prefix : goal.returns-else-prefix
returns-else-prefix c =
    rw (c.if-prefix.false, by_letters false c.args.t.now c.args.at, ← c.byte_at-a.ensures, ← c.byte_at-b.ensures) c.suffix_bit.ensures
