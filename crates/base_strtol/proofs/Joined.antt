-- The pieces of a number, read one after another, make the whole. Assumes nothing.
-- `Pieces`: what was read: the place past the spaces, the sign, the place past it, and the digits there.
-- `within`: the number of the digits is within the limit.
-- `missing`, `present`: with no digits, and with digits, the answer is strtol's.
use mathlib.Core.Path.{◌≡◌, ◌∙◌, ap}
use mathlib.Core.Bool.{Bool, false}
use mathlib.Core.List.{List}
use Prim.Native.Nat.{ℕ, ◌+◌, ◌≤◌, min}
use native.Mathlib.Omega.{arith}
use borrow.Author.Tests.{eq-eqb, ne_eqb}
use lib.Dec.{ltb}
use lib.IntN.{ℤ, pos}
use lib.ListN.{drop}
use lib.Seq.{drop-drop}
use Rattle.base_strtol.specs.Runs.{spaces, digits, number}
use Rattle.base_strtol.specs.Strtol.{minus, signs, limit, signed, trimmed, unsigned, digits_read, strtol, answer}
use Rattle.base_strtol.specs.declared.Run.{Run}

pub record Pieces (s : List ℕ) (start at : ℕ) (neg : Bool) (first : ℕ) (run : Run) : Type 0 where
  pub blank : at ≡ start + spaces (drop start s)
  pub sign : neg ≡ minus (drop at s)
  pub past : first ≡ at + signs (drop at s)
  pub read : run ≡ digits_read (limit neg) first (drop first s)

module _ (s : List ℕ) (start at : ℕ) (neg : Bool) (first : ℕ) (run : Run) (p : Pieces s start at neg first run) where
  -- the same places and texts as in the definition
  trim : drop at s ≡ trimmed (drop start s)
  trim = rw (p.blank, ← drop-drop (spaces (drop start s)) start s)

  rest : drop first s ≡ unsigned (drop start s)
  rest = rw (p.past, ← drop-drop (signs (drop at s)) at s, trim)

  sign_first : neg ≡ minus (trimmed (drop start s))
  sign_first = p.sign ∙ ap minus trim

  ends : run.end ≡ first + digits (unsigned (drop start s))
  ends = ap (λ (r : Run). r.end) p.read ∙ ap (λ (t : List ℕ). first + digits t) rest

  pub within : run.value ≤ limit neg
  within = omega (arith, ap (λ (r : Run). r.value) p.read)

  pub missing : run.end ≡ first → answer (pos 0) start false ≡ strtol s start
  unfolding strtol
  missing e = rw (eq-eqb (digits (unsigned (drop start s))) 0 (omega (arith, ends)))

  pub present : (run.end ≡ first → ⊥) → (value : ℤ) → value ≡ signed neg run.value → answer value run.end run.over ≡ strtol s start
  unfolding strtol
  present some value v =
      let t = unsigned (drop start s) in
      let held : run.value ≡ min (number t) (limit neg) = ap (λ (r : Run). r.value) p.read ∙ ap (λ (u : List ℕ). min (number u) (limit neg)) rest in
      let beyond : run.over ≡ ltb (limit neg) (number t) = ap (λ (r : Run). r.over) p.read ∙ ap (λ (u : List ℕ). ltb (limit neg) (number u)) rest in
      let end : run.end ≡ start + spaces (drop start s) + signs (trimmed (drop start s)) + digits t = omega (arith, ends, p.past, p.blank, ap signs trim) in
      rw (ne_eqb (digits t) 0 (λ z. some (omega (arith, ends))))
      (λ j. record {
        value = (v ∙ ap (signed neg) held ∙ ap (λ (g : Bool). signed g (min (number t) (limit g))) sign_first) j;
        end = end j;
        overflow = (beyond ∙ ap (λ (g : Bool). ltb (limit g) (number t)) sign_first) j;
      })
