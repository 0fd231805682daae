-- `template_nodes::marks::has_lone_mark`: a mark counts alone among all nodes exactly where one does among those that
-- are left.
use Rattle.std.proofs.Common.{◌≡◌}
use lib.ListN.{drop}
use Rattle.template_nodes.specs.Bytes.{nodes_in}
use Rattle.template_nodes.specs.Joined.{has_lone_mark}
use Rattle.template_nodes.proofs.marks.has_lone_mark.Given as goal

abbrev pub invariant-loop-i : goal.invariant-loop-i
invariant-loop-i l = has_lone_mark l.t (drop l.i (nodes_in l.c)) ≡ has_lone_mark l.t (nodes_in l.c)
