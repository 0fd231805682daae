-- `replay::questions::put_nodes` keeps that what was put, then the nodes that are left, are the template's.
use Rattle.template_nodes.specs.Template.{nodes_of}
use Rattle.replay.proofs.Nodes.{Listed}
use Rattle.replay.proofs.questions.put_nodes.Given as goal

abbrev pub invariant-loop-i : goal.invariant-loop-i
invariant-loop-i l = Listed (nodes_of l.t) l.initial.out l.at l.i l.out l.next
