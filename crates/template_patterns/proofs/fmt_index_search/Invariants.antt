-- `template_patterns::fmt_index_search`: the first pattern at the place is the first from number k on.
use Rattle.std.proofs.Common.{◌≡◌}
use lib.ListN.{drop}
use Rattle.template_patterns.specs.Patterns.{names}
use Rattle.template_patterns.specs.Search.{first_at, pattern_at}
use Rattle.template_patterns.proofs.fmt_index_search.Given as goal

abbrev pub invariant-loop-k : goal.invariant-loop-k
invariant-loop-k l = pattern_at l.t l.at ≡ first_at l.k (drop l.k names) l.t l.at
