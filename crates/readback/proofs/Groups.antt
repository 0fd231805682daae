-- The pieces of a full template are those of a date group, a time group and US, in some order. Assumes nothing.
-- `EachFull`: a property of the pieces of each date group with each time group and US.
-- `grouped`: pieces that are full occur as often as in one of these lists, which has each property of all (`Grouped`).
-- `pieces_below`: the pieces of sound nodes are below 18.
-- `expected_same`: what pieces set depends on how often each occurs, and on nothing else.
use mathlib.Core.Path.{◌≡◌, ◌∙◌, refl, sym}
use mathlib.Core.Bool.{Bool, true, false, false≢true}
use mathlib.Core.List.{List, [], ◌∷◌, ◌++◌}
use Prim.Native.Nat.{ℕ, zero, suc, ◌≤◌}
use native.Mathlib.Omega.{arith}
use borrow.Author.Tests.{eqb-true, ltb-true, ltb-false, lt-ltb, ne_eqb}
use lib.Dec.{eqb, ltb}
use Rattle.base_notation.proofs.Cases.{both}
use Rattle.base_notation.proofs.Table.{all_from}
use Rattle.calendar_gregorian.proofs.Dates.{Each, each}
use Rattle.template_patterns.specs.Search.{count_from}
use Rattle.template_nodes.specs.declared.Node.{Node}
use Rattle.write_text.specs.Full.{pieces, date_groups, time_groups, times, same_from, same, any_of, are_full}
use Rattle.write_pieces.specs.Pieces.{micros, piece_of}
use Rattle.write_pieces.specs.declared.Moment.{Moment}
use Rattle.readback.proofs.FieldSettings.{expected}
use Rattle.readback.proofs.Filled.{order_free}
use Rattle.readback.proofs.Sound.{Sound, a_literal, a_pattern, AllSound, pieces_literal, pieces_pattern}

-- a property of each of the lists
abbrev pub AllOf : (List ℕ → Type 0) → List (List ℕ) → Type 0
AllOf P [] = Unit {0}
AllOf P (g ∷ gs) = P g × AllOf P gs

-- where one of the lists passes a test, there is one that has every property of all of them
any_of_lem {ℓ}
    : (A : Type ℓ) (gs : List (List ℕ)) (test : List ℕ → Bool) → any_of gs test ≡ true
    → ((g : List ℕ) → ((P : List ℕ → Type 0) → AllOf P gs → P g) → test g ≡ true → A) → A
any_of_lem A [] test e k = absurd (false≢true e)
any_of_lem A (g ∷ gs) test e k = by (test g) refl (λ q. any_of_lem A gs test q (λ x pick. k x (λ P a. pick P a.1)))
  where
    by : (b : Bool) → test g ≡ b → (any_of gs test ≡ true → A) → A
    by true q rest = k g (λ P a. a.0) q
    by false q rest = rest (rw q at e)

-- the pieces of two groups and US
abbrev pub joined : List ℕ → List ℕ → List ℕ
joined date time = date ++ time ++ micros ∷ []

abbrev pub Timed : (List ℕ → Type 0) → List ℕ → Type 0
Timed P date = AllOf (λ time. P (joined date time)) time_groups

abbrev pub EachFull : (List ℕ → Type 0) → Type 0
EachFull P = AllOf (Timed P) date_groups

-- each of the pieces 0 to 17 occurs as often
same_each : (ps qs : List ℕ) (n i : ℕ) → same_from (count_from i (suc n)) ps qs ≡ true → Each (λ q. times q ps ≡ times q qs) i n
same_each ps qs zero i e = eqb-true _ _ (both (eqb (times i ps) (times i qs)) _ e).0
same_each ps qs (suc n) i e =
    let split = both (eqb (times i ps) (times i qs)) _ e in
    (eqb-true _ _ split.0, same_each ps qs n (suc i) split.1)

-- pieces are below 18
abbrev pub below18 : List ℕ → Bool
below18 ps = all_from (λ (i p : ℕ). ltb p 18) 0 ps

none_above : (ps : List ℕ) (i q : ℕ) → all_from (λ (i p : ℕ). ltb p 18) i ps ≡ true → 18 ≤ q → times q ps ≡ 0
unfolding times
none_above [] i q e h = refl
none_above (p ∷ ps) i q e h =
    let split = both (ltb p 18) _ e in
    rw (ne_eqb q p (omega (arith, ltb-true p 18 split.0))) (none_above ps (suc i) q split.1 h)

-- so each number occurs as often
pub same-times : (ps qs : List ℕ) → below18 ps ≡ true → below18 qs ≡ true → same ps qs ≡ true → (q : ℕ) → times q ps ≡ times q qs
same-times ps qs b c e q =
    (elim (ltb q 18) as (λ w. ltb q 18 ≡ w → times q ps ≡ times q qs) [
      | true ↦ λ w. each (λ q. times q ps ≡ times q qs) 0 17 (same_each ps qs 17 0 e) q (omega arith) (omega (arith, ltb-true q 18 w))
      | false ↦ λ w. none_above ps 0 q b (ltb-false q 18 w) ∙ sym (none_above qs 0 q c (ltb-false q 18 w))
    ]) refl

-- pieces that are, in some order, those of two groups and US
pub record Grouped (ps : List ℕ) : Type 1 where
  pub all : List ℕ
  pub as_often : (q : ℕ) → times q ps ≡ times q all
  pub pick : (P : List ℕ → Type 0) → EachFull P → P all

all_below : EachFull (λ all. below18 all ≡ true)
all_below = (
  (refl, (refl, (refl, (refl, tt)))),
  ((refl, (refl, (refl, (refl, tt)))), ((refl, (refl, (refl, (refl, tt)))), ((refl, (refl, (refl, (refl, tt)))), ((refl, (refl, (refl, (refl, tt)))), tt)))),
)

pub grouped : (ps : List ℕ) → below18 ps ≡ true → are_full ps ≡ true → Grouped ps
unfolding are_full
grouped ps below e =
    any_of_lem (Grouped ps) date_groups dated e
    (λ date pick q. any_of_lem (Grouped ps) time_groups (timed date) q
    (λ time choose r. whole (joined date time) (λ P a. choose (λ x. P (joined date x)) (pick (Timed P) a)) r))
  where
    timed : List ℕ → List ℕ → Bool
    timed date time = same ps (joined date time)

    dated : List ℕ → Bool
    dated date = any_of time_groups (timed date)

    whole : (all : List ℕ) → ((P : List ℕ → Type 0) → EachFull P → P all) → same ps all ≡ true → Grouped ps
    whole all pick r =
        record { all = all; as_often = same-times ps all below (pick (λ x. below18 x ≡ true) all_below) r; pick = pick }

pub pieces_below : (t : List ℕ) (ns : List Node) (i : ℕ) → AllSound t ns → all_from (λ (i p : ℕ). ltb p 18) i (pieces ns) ≡ true
unfolding pieces
pieces_below t [] i a = refl
pieces_below t (n ∷ ns) i a = by a.0 (λ j. pieces_below t ns j a.1)
  where
    by : Sound t n → ((j : ℕ) → all_from (λ (i p : ℕ). ltb p 18) j (pieces ns) ≡ true) → all_from (λ (i p : ℕ). ltb p 18) i (pieces (n ∷ ns)) ≡ true
    by (a_literal l) ih = rw (pieces_literal t n ns l) (ih i)
    by (a_pattern k) ih = rw (pieces_pattern t n ns k, lt-ltb (piece_of n.pattern) 18 k.reads.piece) (ih (suc i))

pub expected_same : (m : Moment) (ps qs : List ℕ) → ((q : ℕ) → times q ps ≡ times q qs) → expected ps m ≡ expected qs m
unfolding expected
expected_same m ps qs e = order_free m _ ps qs e _
