-- `base_strtol::c_strtol` meets its contract: its four calls read the pieces of the definition. Assumes nothing.
use Rattle.std.proofs.Common.{◌∙◌, to_z-of_z, w64}
use Rattle.base_strtol.proofs.Joined.{within, missing, present}
use Rattle.base_strtol.proofs.c_strtol.Goals as goal

-- no digits: 0, and the place stays
pub returns-then-run-first : goal.returns-then-run-first
returns-then-run-first c =
    missing c.args.s.now c.args.start _ _ _ c.digits_at-run.result
    (record {
      blank = c.past_spaces-at.ensures;
      sign = c.minus_at-neg.ensures;
      past = c.past_sign-first.ensures;
      read = c.digits_at-run.ensures;
    })
    c.if-run-first.true

-- the number is within the limit of its sign
pub signed_of-requires : goal.signed_of-requires
signed_of-requires c =
    within c.args.s.now c.args.start _ _ _ c.digits_at-run.result
    (record {
      blank = c.past_spaces-at.ensures;
      sign = c.minus_at-neg.ensures;
      past = c.past_sign-first.ensures;
      read = c.digits_at-run.ensures;
    })

-- digits: their number with its sign
pub returns : goal.returns
returns c =
    present c.args.s.now c.args.start _ _ _ c.digits_at-run.result
    (record {
      blank = c.past_spaces-at.ensures;
      sign = c.minus_at-neg.ensures;
      past = c.past_sign-first.ensures;
      read = c.digits_at-run.ensures;
    })
    c.if-run-first.false _
    (to_z-of_z {w = w64} (record { sfits = c.signed_of.type_inv }) ∙ c.signed_of.ensures)
