-- A year with a comma: each answer of the code is the definition's, and where it ends. Assumes nothing.
-- `no_first`, `no_comma`, `no_second`: the three ways to find no two numbers.
-- `both_read`: the two numbers, cut to 32 bits.
-- `comma_within`: a comma is within the text.
-- `ends`: what was scanned ends within the text.
-- `all_from`: the slice from a place on is all that is left.
-- `found_year`: an answer that is the definition's ends within the input.
use Rattle.std.specs.Prelude.{Result, Some, None, Option}
use mathlib.Core.Path.{◌≡◌, ◌∙◌, ap}
use mathlib.Core.Bool.{not, ◌&&◌, ◌||◌}
use mathlib.Core.List.{List}
use Prim.Native.Nat.{ℕ, ◌+◌, ◌-◌, ◌≤◌, ◌<◌}
use Prim.Native.Char.{code}
use native.Mathlib.Omega.{arith}
use borrow.Author.Tests.{eq-eqb, ne_eqb, eqb-false}
use lib.Dec.{eqb}
use lib.IntN.{ℤ, pos, ◌+ℤ◌, ◌*ℤ◌}
use lib.ListN.{length, take, drop, length-take, length-drop}
use lib.Seq.{take_all}
use Rattle.base_notation.specs.Text.{byte_at}
use Rattle.base_notation.proofs.Bytes.{byte_within}
use Rattle.base_notation.proofs.Cases.{by_if, both, neither}
use Rattle.base_wrapping.specs.Wrap.{wrap32}
use Rattle.base_strtol.specs.Runs.{spaces}
use Rattle.base_strtol.specs.Strtol.{strtol}
use Rattle.base_strtol.specs.declared.Strtol.{Strtol}
use Rattle.base_strtol.proofs.Places.{end_from, end_within}
use Rattle.read_integers.specs.declared.Number.{Number}
use Rattle.read_numbers.specs.declared.years.Scanned.{Scanned}
use Rattle.read_integers.specs.Number.{fits32, Inside, Found}
use Rattle.read_numbers.specs.Year.{joined, scanned, scanned_year, comma_year_at}
use Rattle.base_refusals.specs.declared.Refusal.{Refusal}

-- the text t, the first number a, the place from after the spaces, and the second number b
module _ (t : List ℕ) (a : Strtol) (first : a ≡ strtol t 0) where
  pub no_first : a.end ≡ 0 → None ≡ scanned t
  unfolding scanned
  no_first e = rw (← first, eq-eqb _ _ e)

  -- a comma is within the text
  pub comma_within : byte_at t a.end ≡ code "," → a.end < length t
  comma_within e = byte_within t a.end (λ z. omega (arith, e, z))

  module _ (some : a.end ≡ 0 → ⊥) where
    pub no_comma : (byte_at t a.end ≡ code "," → ⊥) → None ≡ scanned t
    unfolding scanned
    no_comma n = rw (← first, ne_eqb _ _ some, ne_eqb _ _ n)

    module _ (comma : byte_at t a.end ≡ code ",") (from : ℕ) (blank : from ≡ a.end + 1 + spaces (drop (a.end + 1) t))
        (b : Strtol) (second : b ≡ strtol (take (from + 3) t) from) where
      pub no_second : b.end ≡ from → None ≡ scanned t
      unfolding scanned
      no_second e = rw (← first, ne_eqb _ _ some, eq-eqb _ _ comma, ← blank, ← second, eq-eqb _ _ e)

      pub both_read : (b.end ≡ from → ⊥) → (x y : ℤ) → x ≡ wrap32 a.value → y ≡ wrap32 b.value → Some (record { thousands = x; years = y; next = b.end }) ≡ scanned t
      unfolding scanned
      both_read n x y p q = rw (← first, ne_eqb _ _ some, eq-eqb _ _ comma, ← blank, ← second, ne_eqb _ _ n, p, q)

-- what was scanned ends within the text
abbrev pub Ends : List ℕ → Option Scanned → Type 0
Ends t (Some r) = (0 < r.next) × (r.next ≤ length t)
Ends t None = Unit {0}

pub ends : (t : List ℕ) → Ends t (scanned t)
unfolding scanned
ends t =
    let a = strtol t 0 in
    let from = a.end + 1 + spaces (drop (a.end + 1) t) in
    let b = strtol (take (from + 3) t) from in
    by_if (Ends t) (eqb a.end 0 || not (eqb (byte_at t a.end) (code ",")) || eqb b.end from) _ _ (λ e. tt)
    (λ e.
    let moved_on : b.end ≡ from → ⊥ = eqb-false _ _ (neither (eqb a.end 0 || not (eqb (byte_at t a.end) (code ","))) _ e).1 in
    let end_after = end_from (take (from + 3) t) from in
    let end_inside = end_within (take (from + 3) t) from in
    (omega (arith, moved_on), omega (arith, moved_on, length-take (from + 3) t)))

pub all_from : (s : List ℕ) (at : ℕ) → take (length s - at) (drop at s) ≡ drop at s
all_from s at = take_all (length s - at) (drop at s) (omega (arith, length-drop at s))

module _ (s : List ℕ) (at pattern : ℕ) (h : at ≤ length s) where
  inside_of : (r : Option Scanned) → Ends (drop at s) r → Inside s at (scanned_year pattern at r)
  unfolding joined
  inside_of None e = tt
  inside_of (Some r) e =
      let whole = r.thousands *ℤ pos 1000 in
      by_if (Inside s at) (fits32 whole && fits32 (r.years +ℤ whole)) _ _
      (λ f. (omega (arith, e), omega (arith, e, length-drop at s), (both (fits32 whole) _ f).1)) (λ f. tt)

  pub year_inside : Inside s at (comma_year_at s at pattern)
  unfolding comma_year_at
  year_inside = inside_of (scanned (drop at s)) (ends (drop at s))

  pub found_year : (n : Result Number Refusal) (r : Option Scanned) → r ≡ scanned (drop at s) → n ≡ scanned_year pattern at r → Found s at (comma_year_at s at pattern) n
  unfolding comma_year_at
  found_year n r e q = record { is = q ∙ ap (scanned_year pattern at) e; inside = rw (q, e) year_inside }
