-- `replay::questions::of_numbers` meets its contract: each number is one of 32 bits.
use Rattle.std.proofs.Common.{FitsSigned, arith, get_or, pos, rules, to_z-of_z, w32}
use borrow.Author.Tests.{ne_eqb}
use Rattle.replay.specs.Answers.{of_numbers}
use Rattle.replay.proofs.questions.of_numbers.Goals as goal

-- one number
pub returns-in-1 : goal.returns-in-1
unfolding of_numbers
returns-in-1 c =
    let values = c.args.n.values in
    let first : FitsSigned w32 (get_or values 0 (pos 0)) = search rules in
    rw (c.in-1.is, c.of_one.ensures, to_z-of_z first)

-- two
pub returns-in-2 : goal.returns-in-2
unfolding of_numbers
returns-in-2 c =
    let values = c.args.n.values in
    let first : FitsSigned w32 (get_or values 0 (pos 0)) = search rules in
    let second : FitsSigned w32 (get_or values 1 (pos 0)) = search rules in
    rw (c.in-2.is, c.of_two.ensures, to_z-of_z first, to_z-of_z second)

-- three
pub returns-in-3 : goal.returns-in-3
unfolding of_numbers
returns-in-3 c =
    let values = c.args.n.values in
    let first : FitsSigned w32 (get_or values 0 (pos 0)) = search rules in
    let second : FitsSigned w32 (get_or values 1 (pos 0)) = search rules in
    let third : FitsSigned w32 (get_or values 2 (pos 0)) = search rules in
    rw (c.in-3.is, c.of_three.ensures, to_z-of_z first, to_z-of_z second, to_z-of_z third)

-- any other count
pub returns-in_default : goal.returns-in_default
unfolding of_numbers
returns-in_default c =
    let count = c.args.n.count in
    rw (ne_eqb count 1 (λ e. omega arith), ne_eqb count 2 (λ e. omega arith), ne_eqb count 3 (λ e. omega arith))
