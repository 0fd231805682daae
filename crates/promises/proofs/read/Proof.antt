-- `promises::read` meets its contract: each answer is its definition's, and those are in range. Assumes nothing.
use borrow.Author.Rules.{rules}
use Rattle.promises.proofs.Promises.{right_and_safe}
use Rattle.promises.proofs.read.Statement.{statement}
use Rattle.promises.proofs.read.Tie as tie

returns : tie.Need-returns
returns c =
    let after_instant = c.before in
    let after_parts = after_instant.before in
    right_and_safe _ _ _ _ after_parts.to_timestamp_parts-parts.ensures after_instant.to_timestamp_text-instant.ensures c.to_date_text-day.ensures

pub read_spec : {M : Type 1} → statement M
read_spec = tie.close (tie.spec (λ c κs. search rules) (λ c κs. search rules) (λ c κs. search rules) returns)
