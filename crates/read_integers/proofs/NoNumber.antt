-- Where no number begins. Assumes nothing.
-- `no_number`: a byte that is no space, sign or digit is refused as no integer, free or by a width within the input.
use Rattle.std.specs.Prelude.{Err}
use mathlib.Core.Path.{◌≡◌, refl}
use mathlib.Core.Bool.{Bool, true, false}
use mathlib.Core.List.{List, ◌∷◌}
use Prim.Native.Nat.{ℕ, zero, suc, ◌-◌, ◌<◌, ◌≤◌}
use native.Mathlib.Nat.{add-zero}
use borrow.Author.Tests.{eq-eqb, le-ltb, ne_eqb}
use lib.IntN.{pos}
use lib.ListN.{length, take, drop}
use lib.Seq.{drop-cons}
use Rattle.base_notation.specs.Text.{byte_at}
use Rattle.base_refusals.specs.declared.Refusal.TheVariants.{NotInteger}
use Rattle.base_chars.specs.Class.{is_digit, is_space}
use Rattle.base_strtol.specs.Runs.{leading, spaces, digits}
use Rattle.base_strtol.specs.Strtol.{answer, signs, strtol}
use Rattle.read_integers.specs.Number.{checked, fixed_at, number_at}

-- no space, sign or digit is in front
abbrev Bare : List ℕ → Type 0
Bare u = (spaces u ≡ 0) × (signs u ≡ 0) × (digits u ≡ 0)

-- of such a text strtol reads nothing
nothing : (s : List ℕ) (start : ℕ) → Bare (drop start s) → strtol s start ≡ answer (pos 0) start false
unfolding strtol
nothing s start bare = rw (bare.0, bare.1, bare.2)

module _ (s : List ℕ) (at : ℕ) (inside : at < length s) (no_space : is_space (byte_at s at) ≡ false)
    (no_digit : is_digit (byte_at s at) ≡ false) (no_plus : byte_at s at ≡ 43 → ⊥) (no_minus : byte_at s at ≡ 45 → ⊥)
  where
    -- such a byte, and what may follow it
    bare : (u : List ℕ) → Bare (byte_at s at ∷ u)
    unfolding leading
    bare u =
        let minus = ne_eqb (byte_at s at) 45 no_minus in
        let plus = ne_eqb (byte_at s at) 43 no_plus in
        (rw no_space refl, rw (minus, plus) refl, rw no_digit refl)

    here : Bare (drop at s)
    here = rw (drop-cons s at 0 inside) (bare (drop (suc at) s))

    -- the first bytes from there on
    part : (width : ℕ) → Bare (take width (drop at s))
    unfolding leading
    part zero = (refl, refl, refl)
    part (suc w) = rw (drop-cons s at 0 inside) (bare (take w (drop (suc at) s)))

    pub no_number : (width pattern : ℕ) (free : Bool) → width ≤ length s - at
        → number_at s at width pattern free ≡ Err (NotInteger pattern)
    unfolding number_at fixed_at checked
    no_number width pattern true room = rw (nothing s at here, eq-eqb at at refl)
    no_number width pattern false room =
        let reads_nothing = nothing (take width (drop at s)) 0 (part width) in
        let fits = le-ltb (length s - at) width room in
        rw (here.0, add-zero at, reads_nothing, fits, add-zero at, eq-eqb at at refl)
