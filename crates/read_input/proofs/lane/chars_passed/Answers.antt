-- `read_input::lane::chars_passed`: one more character is read, and what is left gives what was to be read.
use Rattle.std.proofs.Common.{◌≡◌, ◌/◌, ◌<◌, arith, refl, length}
use Rattle.template_nodes.specs.Bytes.{nodes_in}
use Rattle.template_nodes.proofs.Encoding.{nodes_length}
use Rattle.read_input.proofs.Plainly.{chars_end, of_character}
use Rattle.read_input.proofs.lane.chars_passed.Goals as goal

pub loop-i-init : goal.loop-i-init
loop-i-init c = (omega arith, λ t f whole turned. turned)

-- the input ended
pub returns-then-s-at : goal.returns-then-s-at
returns-then-s-at c =
    chars_end c.requires.2 c.requires.3 c.loop-i.invariant.0 c.loop-i.invariant.1 c.reached.ensures

-- another node
pub returns-then-n-ne-FN_CHAR : goal.returns-then-n-ne-FN_CHAR
returns-then-n-ne-FN_CHAR c =
    chars_end c.requires.2 c.requires.3 c.loop-i.invariant.0 c.loop-i.invariant.1 c.reached-then-n-ne-FN_CHAR.ensures

-- one more character
pub loop-i-preserved : goal.loop-i-preserved
loop-i-preserved c =
    let nodes = nodes_in c.args.c.now in
    let one_left : c.loop-i.i < length nodes = omega (arith, nodes_length c.args.c.now) in
    let later : c.loop-i.i ≡ 0 → ⊥ = λ z. c.requires.1 (omega (arith, c.loop-i.invariant.0, z)) in (
      omega (arith, c.loop-i.invariant.0),
      λ t f whole turned.
          rw c.measure_usual-at.ensures.is
          (of_character t c.args.s.now nodes whole c.loop-i.i f _ (c.loop-i.invariant.1 t f whole turned) one_left (omega arith)
          _ c.node_at-n.ensures c.loop-i.at refl c.if-n-ne-FN_CHAR.false later),
    )

-- the template ended
pub returns : goal.returns
returns c =
    let all : c.loop-i.i ≡ length c.args.c.now / 6 = omega (arith, c.requires.0, nodes_length c.args.c.now) in
    chars_end c.requires.2 c.requires.3 c.loop-i.invariant.0 c.loop-i.invariant.1 (rw (← all) at c.reached-2.ensures)
