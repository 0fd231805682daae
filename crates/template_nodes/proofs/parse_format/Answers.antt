-- `template_nodes::parse_format` meets its contract: each way through the loop is a step of the definitions. Assumes
-- nothing.
use mathlib.Core.Path.{◌≡◌, ◌∙◌, refl, sym, ap}
use mathlib.Core.Bool.{true, not}
use Prim.Native.Nat.{ℕ, ◌+◌}
use native.Mathlib.Omega.{arith}
use borrow.Author.Rules.{rules}
use lib.ListN.{length}
use Rattle.template_nodes.specs.Template.{character, in_mode, kind_of, literal, make, skip, step_at}
use Rattle.template_nodes.specs.declared.Step.{Step}
use Rattle.template_nodes.proofs.Elements.{found_step, goes_on, node_of, rest_step}
use Rattle.template_nodes.proofs.Singles.{quote_step, single_step}
use Rattle.template_nodes.proofs.Turns.{begun, in_quotes, kept, passed, plain_step, put_one, turned, ended}
use Rattle.base_notation.specs.Text.{byte_at}
use Rattle.template_nodes.proofs.parse_format.Goals as goal

pub loop-at-init : goal.loop-at-init
loop-at-init c = record { one_each = omega arith; few = omega arith; same_length = refl; read = begun _ _ _ }

-- a plain character in quotes
pub loop-at-preserved-then-is_quoted_char : goal.loop-at-preserved-then-is_quoted_char
loop-at-preserved-then-is_quoted_char c =
    let args = c.args in
    let turn = c.loop-at in
    let plain = sym c.is_quoted_char.ensures ∙ c.if-is_quoted_char.true in
    let measured = c.measure_usual-len.ensures in
    let character_of : ℕ → Step = λ n. make (in_mode args.accents (literal character turn.at n)) (turn.at + n) true in
    record {
      one_each = omega (arith, measured.some);
      few = omega arith;
      same_length = search rules;
      read =
          rw (c.put_node.ensures, c.literal.ensures, ← in_quotes args.t.now turn.at turn.quoted plain)
          (kept args.accents args.t.now args.out.now turn.n turn.at turn.quoted (character_of c.measure_usual-len.result)
          (ap character_of measured.is ∙ plain_step args.accents args.t.now turn.at turn.quoted plain) c.loop-at-test.true
          (omega (arith, measured.some)) turn.invariant.read (omega arith) _ refl);
    }

-- a byte that is a node by itself
pub loop-at-preserved-then-is_single : goal.loop-at-preserved-then-is_single
loop-at-preserved-then-is_single c =
    let args = c.args in
    let turn = c.loop-at in
    let told = sym c.is_single.ensures ∙ c.if-is_single.true in
    let step = make (in_mode args.accents (literal (kind_of (byte_at args.t.now turn.at)) turn.at 1)) (turn.at + 1) turn.quoted in
    record {
      one_each = omega arith;
      few = omega arith;
      same_length = search rules;
      read =
          rw (c.put_node-then-is_single.ensures, c.literal-then-is_single.ensures, c.single_kind.ensures)
          (kept args.accents args.t.now args.out.now turn.n turn.at turn.quoted step
          (single_step args.accents args.t.now turn.at c.loop-at-test.true turn.quoted told) c.loop-at-test.true (omega arith) turn.invariant.read
          (omega arith) _ refl);
    }

-- a quote
pub loop-at-preserved-then-t-at-eq34 : goal.loop-at-preserved-then-t-at-eq34
loop-at-preserved-then-t-at-eq34 c =
    let args = c.args in
    let turn = c.loop-at in
    record {
      one_each = omega arith;
      few = turn.invariant.few;
      same_length = turn.invariant.same_length;
      read =
          passed args.accents args.t.now args.out.now turn.n turn.at turn.quoted (skip (turn.at + 1) (not turn.quoted))
          (quote_step args.accents args.t.now turn.at c.loop-at-test.true turn.quoted c.if-t-at-eq34.true) c.loop-at-test.true (omega arith)
          turn.invariant.read refl;
    }

-- a pattern
pub loop-at-preserved-in-Some : goal.loop-at-preserved-in-Some
loop-at-preserved-in-Some c =
    let args = c.args in
    let turn = c.loop-at in
    let element = c.element_at-e in
    let pattern = c.in-Some.pattern in
    let on = element.ensures.on pattern c.in-Some.is in
    record {
      one_each = omega (arith, on);
      few = omega arith;
      same_length = search rules;
      read =
          rw (c.put_node-in-Some.ensures, c.action.ensures)
          (kept args.accents args.t.now args.out.now turn.n turn.at turn.quoted (make (node_of args.accents pattern) element.result.next turn.quoted)
          (found_step args.accents args.t.now turn.at c.loop-at-test.true turn.quoted element.result element.ensures.is pattern c.in-Some.is)
          c.loop-at-test.true on turn.invariant.read (omega arith) _ refl);
    }

-- no pattern
pub loop-at-preserved : goal.loop-at-preserved
loop-at-preserved c =
    let args = c.args in
    let turn = c.loop-at in
    let inside = c.loop-at-test.true in
    let element = c.element_at-e in
    let rest = c.rest_step-s in
    let put = c.put_made-n in
    let on = goes_on (length args.t.now) turn.at element.result.next rest.result.next inside element.ensures.from rest.ensures.from rest.ensures.on in
    let is : rest.result ≡ step_at args.accents args.t.now turn.at turn.quoted
    = rest.ensures.is ∙ rest_step args.accents args.t.now turn.at inside turn.quoted element.result element.ensures.is c.in_default.is in
    let one = put_one rest.result turn.out put.new.out turn.n put.result put.ensures in
    record {
      one_each = omega (arith, one, on);
      few = omega (arith, one, inside, c.requires);
      same_length = search rules;
      read =
          turned args.accents args.t.now args.out.now turn.n turn.at turn.quoted rest.result is inside on turn.invariant.read
          (omega (arith, inside, c.requires)) put.new.out put.result put.ensures;
    }

pub returns : goal.returns
returns c = ended _ _ _ _ _ _ _ c.loop-at.invariant.read c.loop-at.invariant.few c.loop-at-test.false
