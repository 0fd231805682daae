-- A number of the input: each answer of the code is the definition's, and where it ends. Assumes nothing.
-- `accepted`: a number that was read and has 32 bits passes the checks.
-- `short`, `narrow`, `whole`: the three answers for a fixed width: too few bytes, too few digits, and the checks.
-- `part_end`: strtol ends within the part of the width.
-- `found_free`, `found_fixed`: an answer that is the definition's ends within the input.
use Rattle.std.specs.Prelude.{Err, Ok, Result}
use mathlib.Core.Path.{◌≡◌, ap}
use mathlib.Core.Bool.{Bool, true, false, not, ◌&&◌, ◌||◌}
use mathlib.Core.List.{List}
use Prim.Native.Nat.{ℕ, ◌+◌, ◌-◌, ◌≤◌, ◌<◌}
use native.Mathlib.Omega.{arith}
use borrow.Author.Tests.{lt-ltb, le-ltb, ne_eqb, eqb-false, not-false}
use lib.Dec.{eqb, ltb}
use lib.ListN.{length, take, drop, length-take, length-drop}
use Rattle.base_notation.proofs.Cases.{by_if, neither}
use Rattle.base_refusals.specs.declared.Refusal.TheVariants.{Short, Narrow}
use Rattle.base_chars.specs.Class.{is_space}
use Rattle.base_strtol.specs.Runs.{spaces}
use Rattle.base_strtol.specs.Strtol.{strtol}
use Rattle.base_strtol.specs.declared.Strtol.{Strtol}
use Rattle.base_strtol.proofs.Leading.{leading_place}
use Rattle.base_strtol.proofs.Places.{end_from, end_within}
use Rattle.read_integers.specs.declared.Number.{Number}
use Rattle.read_integers.specs.Number.{up_to, fits32, checked, fixed_at, number_at, Inside, Found}
use Rattle.base_refusals.specs.declared.Refusal.{Refusal}

-- a number that is found, of 32 bits
pub accepted
    : (pattern start : ℕ) (r : Strtol) → (r.end ≡ start → ⊥) → r.overflow ≡ false → fits32 r.value ≡ true
    → Ok (up_to r.value r.end) ≡ checked pattern start r
unfolding checked
accepted pattern start r n o f = rw (ne_eqb _ _ n, o, f)

module _ (s : List ℕ) (at pattern : ℕ) where
  -- what the checks let through ends after its place and within the input
  pub checked_inside : (r : Strtol) → at ≤ r.end → r.end ≤ length s → Inside s at (checked pattern at r)
  unfolding checked
  checked_inside r l h =
      by_if (Inside s at) (eqb r.end at) _ _ (λ e. tt)
      (λ e. by_if (Inside s at) (r.overflow || not (fits32 r.value)) _ _ (λ f. tt)
      (λ f. (omega (arith, eqb-false r.end at e), h, not-false _ (neither r.overflow _ f).1)))

  pub free_inside : at ≤ length s → Inside s at (checked pattern at (strtol s at))
  free_inside h = checked_inside (strtol s at) (end_from s at) (omega (arith, end_within s at))

  -- a number of fixed width: from is the place after the spaces
  module _ (width from : ℕ) (start : from ≡ at + spaces (drop at s)) where
    abbrev part : List ℕ
    part = take width (drop from s)

    abbrev moved : Strtol → Strtol
    moved r = record { value = r.value; end = from + r.end; overflow = r.overflow }

    pub short : length s - from < width → Err (Short pattern width (length s - from)) ≡ fixed_at s at width pattern
    unfolding fixed_at
    short h = rw (← start, lt-ltb _ _ h)

    module _ (room : width ≤ length s - from) (r : Strtol) (found : r ≡ strtol (take (from + width - from) (drop from s)) 0) where
      -- the bytes up to the end of the field are the part
      is : r ≡ strtol part 0
      is = let as_long : from + width - from ≡ width = omega arith in rw as_long at found

      pub narrow : 0 < r.end → r.end < width → Err (Narrow pattern width r.end) ≡ fixed_at s at width pattern
      unfolding fixed_at
      narrow f g = rw (← start, le-ltb _ _ room, ← is, lt-ltb _ _ f, lt-ltb _ _ g)

      pub whole : (ltb 0 r.end && ltb r.end width) ≡ false → checked pattern at (moved r) ≡ fixed_at s at width pattern
      unfolding fixed_at
      whole f = rw (← start, le-ltb _ _ room, ← is, f)

      -- the number ends within the part
      pub part_end : r.end ≤ width
      part_end = omega (arith, end_within part 0, length-take width (drop from s), ap (λ (t : Strtol). t.end) is)

  module _ (width : ℕ) (h : at ≤ length s) where
    pub fixed_inside : Inside s at (fixed_at s at width pattern)
    unfolding fixed_at
    fixed_inside =
        let from = at + spaces (drop at s) in
        let r = strtol (take width (drop from s)) 0 in
        by_if (Inside s at) (ltb (length s - from) width) _ _ (λ e. tt)
        (λ e. by_if (Inside s at) (ltb 0 r.end && ltb r.end width) _ _ (λ f. tt)
        (λ f. checked_inside _ (omega arith) (omega (arith, leading_place is_space s at, end_within (take width (drop from s)) 0, length-take width (drop from s), length-drop from s))))

    -- what the function returns, in both cases
    module _ (free : Bool) (n : Result Number Refusal) where
      pub found_free : free ≡ true → n ≡ checked pattern at (strtol s at) → Found s at (number_at s at width pattern free) n
      unfolding number_at
      found_free e q = record { is = rw e q; inside = rw q (free_inside h) }

      pub found_fixed : free ≡ false → n ≡ fixed_at s at width pattern → Found s at (number_at s at width pattern free) n
      unfolding number_at
      found_fixed e q = record { is = rw e q; inside = rw q fixed_inside }
