-- Pieces that go together: each occurs once, has a field of its own, and a date mode that the others do not contradict.
-- `together` is the test of it. Assumes nothing. For a piece p that is next, after the pieces done:
-- `absent`: its field is not set yet. `unmixed`: no other date mode is set.
-- `stored`: what it sets, after what those done set, is what all of them set.
-- `fits_next`: with p among the pieces done, the pieces done and those to come are still all.
use mathlib.Core.Path.{◌≡◌, refl}
use mathlib.Core.Bool.{Bool, true, false, not, ◌&&◌, ◌||◌, false≢true, and-false}
use mathlib.Core.List.{List, [], ◌∷◌}
use Prim.Native.Nat.{ℕ, suc, ◌+◌, ◌<◌}
use native.Mathlib.Omega.{arith}
use borrow.Author.Tests.{eqb-true, eq-eqb, ne_eqb, ltb-true, ltb-false, lt-ltb, leb-true}
use lib.Dec.{eqb, leb, ltb}
use lib.IntN.{pos}
use lib.ListN.{replicate, get_or-replicate, get_or-eq_default}
use Rattle.base_notation.specs.Choice.{when◌then◌else◌}
use Rattle.base_notation.proofs.Cases.{both}
use Rattle.base_notation.proofs.Table.{all_from, entry}
use Rattle.read_fields.specs.Fields.{mode, get, no_fields}
use Rattle.read_input.specs.Reader.{mixes}
use Rattle.write_text.specs.Full.{times}
use Rattle.write_pieces.specs.declared.Moment.{Moment}
use Rattle.readback.proofs.FieldSettings.{Kept, always, own, Setting, settings, value_of, filled_by, expected}
use Rattle.readback.proofs.Filled.{has, among, in_pairs, other, held, one_more}
use Rattle.readback.proofs.Known.{task_for, mode_for}

-- no other piece sets the piece's own field
abbrev clear : List ℕ → ℕ → Bool
clear all p = among (λ q. has all q && not (eqb q p)) (λ (r : Setting). not (eqb r.field (task_for p).field) || false) 0 settings

-- each date mode that is set is the piece's, if it has one
abbrev is_mode : ℕ → Kept → Bool
is_mode c (always n) = eqb c 0 || eqb n c
is_mode c own = eqb c 0

abbrev one_mode : List ℕ → ℕ → Bool
one_mode all p = among (has all) (λ (r : Setting). not (eqb r.field mode) || is_mode (mode_for p) r.kept) 0 settings

-- a piece that occurs does so once, with its own field and its date mode
abbrev goes : List ℕ → ℕ → Bool
goes all p = not (has all p) || (leb (times p all) 1 && (clear all p && one_mode all p))

-- each piece goes so, and no two settings of one field differ
abbrev pub together : List ℕ → Bool
together all = in_pairs (has all) settings && all_from (λ (p x : ℕ). goes all p) 0 (replicate 18 0)

no_field : (k : ℕ) → get no_fields k ≡ pos 0
no_field k =
    (elim (ltb k 24) as (λ w. ltb k 24 ≡ w → get no_fields k ≡ pos 0) [
      | true ↦ λ w. get_or-replicate 24 k (pos 0) (pos 0) (ltb-true k 24 w)
      | false ↦ λ w. get_or-eq_default (replicate 24 (pos 0)) (pos 0) (ltb-false k 24 w)
    ]) refl

-- a date mode that was set and is the piece's is no other
mode_kept : (c : ℕ) (v : Kept) (p : ℕ) (m : Moment) → is_mode c v ≡ true → mixes c (value_of v p m) ≡ false
mode_kept c v p m e = by (eqb c 0) refl v e
  where
    by : (t : Bool) → eqb c 0 ≡ t → (v : Kept) → is_mode c v ≡ true → mixes c (value_of v p m) ≡ false
    by true q v e = rw q
    by false q own e = absurd (false≢true (rw q at e))
    by false q (always n) e =
        let same : n ≡ c = eqb-true n c (rw q at e) in
        rw (q, same, eq-eqb c c refl) (and-false (not (eqb c 0)))

own_times : (p : ℕ) (ps : List ℕ) → times p (p ∷ ps) ≡ suc (times p ps)
unfolding times
own_times p ps = rw (eq-eqb p p refl)

-- the pieces done, the piece p, and those that follow it are all
module _ (all : List ℕ) (c : together all ≡ true) (m : Moment) (done : List ℕ) (p : ℕ) (ps : List ℕ) (small : p < 18)
    (fits : (q : ℕ) → times q done + times q (p ∷ ps) ≡ times q all) where
  -- p is one of all, so it passes the test
  here : has all p ≡ true
  here = lt-ltb 0 (times p all) (omega (arith, fits p, own_times p ps))

  pairs : (in_pairs (has all) settings ≡ true) × (all_from (λ (p x : ℕ). goes all p) 0 (replicate 18 0) ≡ true)
  pairs = both (in_pairs (has all) settings) _ c

  needs : (leb (times p all) 1 ≡ true) × (clear all p && one_mode all p ≡ true)
  needs = both (leb (times p all) 1) _ (other (has all p) _ here (entry (λ (p x : ℕ). goes all p) 0 (replicate 18 0) pairs.1 p small))

  -- it was not read before
  unread : times p done ≡ 0
  unread = omega (arith, leb-true (times p all) 1 needs.0, fits p, own_times p ps)

  -- a piece that is done is one of all, and is not p
  sub : (q : ℕ) → has done q ≡ true → has all q ≡ true
  sub q e = lt-ltb 0 (times q all) (omega (arith, ltb-true 0 (times q done) e, fits q))

  sub_other : (q : ℕ) → has done q ≡ true → (has all q && not (eqb q p)) ≡ true
  sub_other q e =
      let another : eqb q p ≡ false = ne_eqb q p (λ x. let z : times q done ≡ 0 = rw x unread in omega (arith, ltb-true 0 (times q done) e)) in
      rw (sub q e, another)

  pub absent : get (expected done m) (task_for p).field ≡ pos 0
  unfolding expected
  absent =
      held m (λ q. has all q && not (eqb q p)) done sub_other (λ z. z ≡ pos 0) (task_for p).field (λ r. false) (λ r e. absurd (false≢true e)) 0 settings
      (both (clear all p) _ needs.1).0 no_fields (no_field (task_for p).field)

  pub unmixed : mixes (mode_for p) (get (expected done m) mode) ≡ false
  unfolding expected
  unmixed =
      held m (has all) done sub (λ z. mixes (mode_for p) z ≡ false) mode (λ (r : Setting). is_mode (mode_for p) r.kept)
      (λ r e. mode_kept (mode_for p) r.kept r.piece m e) 0 settings (both (clear all p) _ needs.1).1 no_fields (and-false (not (eqb (mode_for p) 0)))

  pub stored : filled_by settings (p ∷ []) m (expected done m) ≡ expected (p ∷ done) m
  unfolding expected
  stored = one_more m (has all) done sub p here unread settings pairs.0 no_fields

  pub fits_next : (q : ℕ) → times q (p ∷ done) + times q ps ≡ times q all
  unfolding times
  fits_next q = by (eqb q p) (fits q)
    where
      by : (t : Bool) → times q done + (when t then suc (times q ps) else times q ps) ≡ times q all
          → (when t then suc (times q done) else times q done) + times q ps ≡ times q all
      by true e = omega arith
      by false e = e
