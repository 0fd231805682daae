-- `template_patterns::fmt_index_search` meets its contract. The names are sorted by first byte, so another first byte
-- ends the search. Assumes nothing.
use mathlib.Core.Path.{◌≡◌, ◌∙◌, sym, ap}
use native.Mathlib.Omega.{arith}
use Rattle.std.specs.Prelude.{Some}
use Rattle.template_patterns.specs.Search.{found_pattern}
use Rattle.template_patterns.proofs.Keys.{key_begins, key_first, number_in, number_parts}
use Rattle.template_patterns.proofs.Names.{name_length}
use Rattle.template_patterns.proofs.Search.{begins, found, next, none_begins, none_on}
use Rattle.template_patterns.proofs.fmt_index_search.Goals as goal

-- no name begins with the byte
pub returns-in_err-first : goal.returns-in_err-first
returns-in_err-first c =
    c.from_residual.ensures ∙ sym (none_begins c.args.t.now c.args.at (sym c.first_of.ensures ∙ c.in_err-first.was))

-- the search begins at the first name that begins with the byte
pub loop-k-init : goal.loop-k-init
loop-k-init c = (begins c.args.t.now c.args.at _ (sym c.first_of.ensures ∙ c.in_ok-first.was)).1

-- name k begins with another byte: no later name is there
pub returns-then-name-key : goal.returns-then-name-key
returns-then-name-key c =
    let args = c.args in
    let key = c.key_at-key.ensures in
    let k = c.loop-k.k in
    let name_is = number_in c.names-names.result.now c.names-names.ensures k in
    let name_first = rw (← name_is) at (number_parts k c.loop-k-test.true).first in
    let key_begins_with = rw (← key.is) at (key_first args.t.now key.bytes args.at) in
    sym (c.loop-k.invariant
    ∙ none_on args.t.now args.at c.in_ok-first.first k (sym c.first_of.ensures ∙ c.in_ok-first.was) c.loop-k-test.true c.loop-k.auto.k
    (λ q. c.if-name-key.true (name_first ∙ q ∙ sym key_begins_with)))

-- a name has at most 40 bits
pub begins-requires : goal.begins-requires
begins-requires c =
    let name_is = number_in c.names-names.result.now c.names-names.ensures c.loop-k.k in
    let bits = rw (← name_is) at (number_parts c.loop-k.k c.loop-k-test.true).bits in
    omega (arith, bits, name_length c.loop-k.k c.loop-k-test.true)

-- name k is there
pub returns-then-begins : goal.returns-then-begins
returns-then-begins c =
    let args = c.args in
    let key = c.key_at-key.ensures in
    let k = c.loop-k.k in
    let name_is = number_in c.names-names.result.now c.names-names.ensures k in
    let told = key_begins args.t.now key.bytes args.at k c.loop-k-test.true in
    let is_there = sym told ∙ sym (rw (← key.is, ← name_is) c.begins.ensures) ∙ c.if-begins.true in
    ap (λ len. Some (found_pattern k len)) (rw (← name_is) at (number_parts k c.loop-k-test.true).size)
    ∙ sym (c.loop-k.invariant ∙ found args.t.now args.at k c.loop-k-test.true is_there)

-- name k is not there
pub loop-k-preserved : goal.loop-k-preserved
loop-k-preserved c =
    let args = c.args in
    let key = c.key_at-key.ensures in
    let k = c.loop-k.k in
    let told = key_begins args.t.now key.bytes args.at k c.loop-k-test.true in
    let name_is = number_in c.names-names.result.now c.names-names.ensures k in
    let not_there = sym told ∙ sym (rw (← key.is, ← name_is) c.begins.ensures) ∙ c.if-begins.false in
    c.loop-k.invariant ∙ next args.t.now args.at k c.loop-k-test.true not_there

-- no name is left
pub returns : goal.returns
returns c =
    let from_start = begins c.args.t.now c.args.at _ (sym c.first_of.ensures ∙ c.in_ok-first.was) in
    let at_end : c.loop-k.k ≡ 112 = omega (arith, from_start.0) in
    sym (rw at_end at c.loop-k.invariant)
