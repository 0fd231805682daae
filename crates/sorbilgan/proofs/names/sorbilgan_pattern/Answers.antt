-- `sorbilgan::names::sorbilgan_pattern` meets its contract: past the table there is no name. Assumes nothing.
use Rattle.std.proofs.Common.{◌≡◌, ◌≤◌, [], ap, ℕ}
use lib.ListN.{get_or-eq_default}
use Rattle.template_patterns.specs.Patterns.{Pattern, name_of, patterns}
use Rattle.sorbilgan.proofs.names.sorbilgan_pattern.Goals as goal

-- past the table there is no name
none_past : (k : ℕ) → 112 ≤ k → name_of k ≡ []
none_past k h = ap (λ (p : Pattern). p.name) (get_or-eq_default patterns _ h)

pub returns-then-number-ge-NO_PATTERN : goal.returns-then-number-ge-NO_PATTERN
returns-then-number-ge-NO_PATTERN c =
    let no_name = none_past c.args.number c.if-number-ge-NO_PATTERN.true in
    record { is = rw no_name; name = rw no_name }
