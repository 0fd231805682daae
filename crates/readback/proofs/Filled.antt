-- Settings of pieces may be put in any order, if those of one field put the same into it. Assumes nothing.
-- `has`, `among`, `in_pairs`: a piece occurs; a test passes at the settings of some pieces; these go with each other.
-- `other`: of "not a or b", where a holds, b holds.
-- `order_free`: how often each piece occurs decides what is set, and not where it occurs.
-- `held`: what holds of a field, and of each value that is put into it, holds of it in the end.
-- `one_more`: the settings of one piece, put after those of others, make the settings of all of them.
use mathlib.Core.Path.{◌≡◌, ◌∙◌, refl, sym, ap}
use mathlib.Core.Bool.{Bool, true, false, not, ◌&&◌, ◌||◌, false≢true}
use mathlib.Core.List.{List, [], ◌∷◌}
use Prim.Native.Nat.{ℕ, suc}
use borrow.Author.Tests.{eqb-true, eqb-false, ltb-true, ltb-false}
use lib.Dec.{eqb, ltb}
use lib.IntN.{ℤ, pos}
use lib.ListN.{length}
use lib.Seq.{set_comm, set_out, get_or-set_same, get_or-set_other}
use Rattle.base_notation.specs.Choice.{when◌then◌else◌}
use Rattle.base_notation.proofs.Cases.{both}
use Rattle.base_notation.proofs.Table.{all_from}
use Rattle.read_fields.specs.Fields.{get, put}
use Rattle.read_fields.specs.declared.Fields.{Fields}
use Rattle.write_text.specs.Full.{times}
use Rattle.write_pieces.specs.declared.Moment.{Moment}
use Rattle.readback.proofs.FieldSettings.{Kept, always, own, Setting, value_of, filled_by}

-- the piece q occurs
abbrev pub has : List ℕ → ℕ → Bool
has ps q = ltb 0 (times q ps)

-- two settings put the same value, given whether their pieces are the same
abbrev pub alike_by : Kept → Kept → Bool → Bool
alike_by (always a) (always b) same = eqb a b
alike_by (always a) own same = false
alike_by own (always b) same = false
alike_by own own same = same

-- two settings are of different fields, or put the same
abbrev pub apart : Setting → Setting → Bool
apart r s = not (eqb r.field s.field) || alike_by r.kept s.kept (eqb r.piece s.piece)

-- the test passes at each setting of a known piece
abbrev pub among : (ℕ → Bool) → (Setting → Bool) → ℕ → List Setting → Bool
among known test i rs = all_from (λ (j : ℕ) (r : Setting). not (known r.piece) || test r) i rs

-- each setting of a known piece goes with those that follow it
abbrev pub in_pairs : (ℕ → Bool) → List Setting → Bool
in_pairs known [] = true
in_pairs known (r ∷ rs) = (not (known r.piece) || among known (apart r) 0 rs) && in_pairs known rs

pub other : (a b : Bool) → a ≡ true → (not a || b) ≡ true → b ≡ true
other true b e q = q
other false b e q = absurd (false≢true e)

module _ (m : Moment) where
  abbrev value : Setting → ℤ
  value r = value_of r.kept r.piece m

  -- fields with one more setting
  abbrev set_by : Setting → Fields → Fields
  set_by r f = put f r.field (value r)

  pub order_free : (rs : List Setting) (ps qs : List ℕ) → ((q : ℕ) → times q ps ≡ times q qs) → (f : Fields) → filled_by rs ps m f ≡ filled_by rs qs m f
  unfolding filled_by
  order_free [] ps qs e f = refl
  order_free (r ∷ rs) ps qs e f = rw (e r.piece) (order_free rs ps qs e _)

  alike_value : (a b : Kept) (p q : ℕ) → alike_by a b (eqb p q) ≡ true → value_of a p m ≡ value_of b q m
  alike_value (always a) (always b) p q e = ap pos (eqb-true a b e)
  alike_value (always a) own p q e = absurd (false≢true e)
  alike_value own (always b) p q e = absurd (false≢true e)
  alike_value own own p q e = rw (eqb-true p q e)

  -- such settings may be put in either order
  commute : (r s : Setting) (f : Fields) → apart r s ≡ true → set_by r (set_by s f) ≡ set_by s (set_by r f)
  commute r s f e = by (eqb r.field s.field) refl
    where
      by : (t : Bool) → eqb r.field s.field ≡ t
          → set_by r (set_by s f) ≡ set_by s (set_by r f)
      by true q =
          let same : value r ≡ value s = alike_value r.kept s.kept r.piece s.piece (rw q at e) in
          rw (same, eqb-true r.field s.field q)
      by false q = ap (λ (v : List ℤ). record { values = v }) (sym (set_comm f.values r.field s.field (value r) (value s) (eqb-false _ _ q)))

  module _ (known : ℕ → Bool) (done : List ℕ) (sub : (q : ℕ) → has done q ≡ true → known q ≡ true) where
    -- a setting may be put before those of the pieces done, as well as after them
    put_past : (r : Setting) (i : ℕ) (rs : List Setting) → among known (apart r) i rs ≡ true → (f : Fields)
        → set_by r (filled_by rs done m f) ≡ filled_by rs done m (set_by r f)
    unfolding filled_by
    put_past r i [] e f = refl
    put_past r i (s ∷ rs) e f = put_past r (suc i) rs split.1 _ ∙ ap (filled_by rs done m) (by (has done s.piece) refl)
      where
        split : (not (known s.piece) || apart r s ≡ true) × (among known (apart r) (suc i) rs ≡ true)
        split = both (not (known s.piece) || apart r s) _ e

        by : (t : Bool) → has done s.piece ≡ t
            → set_by r (when t then set_by s f else f)
            ≡ (when t then set_by s (set_by r f) else set_by r f)
        by true q = commute r s f (other (known s.piece) (apart r s) (sub s.piece q) split.0)
        by false q = refl

    pub held : (Q : ℤ → Type 0) (k : ℕ) (ok : Setting → Bool) → ((r : Setting) → ok r ≡ true → Q (value r)) → (i : ℕ) (rs : List Setting)
        → among known (λ (r : Setting). not (eqb r.field k) || ok r) i rs ≡ true → (f : Fields) → Q (get f k) → Q (get (filled_by rs done m f) k)
    unfolding filled_by
    held Q k ok g i [] e f z = z
    held Q k ok g i (r ∷ rs) e f z = held Q k ok g (suc i) rs split.1 _ (by (has done r.piece) refl)
      where
        split : (not (known r.piece) || (not (eqb r.field k) || ok r) ≡ true) × (among known (λ (r : Setting). not (eqb r.field k) || ok r) (suc i) rs ≡ true)
        split = both (not (known r.piece) || (not (eqb r.field k) || ok r)) _ e

        inside : (not (eqb r.field k) || ok r) ≡ true → (t u : Bool) → eqb r.field k ≡ t → ltb r.field (length f.values) ≡ u → Q (get (set_by r f) k)
        inside h false u p q = rw (get_or-set_other f.values r.field k (value r) (pos 0) (λ x. eqb-false _ _ p (sym x))) z
        inside h true false p q = rw (set_out f.values r.field (value r) (ltb-false _ _ q)) z
        inside h true true p q =
            rw (← eqb-true r.field k p, get_or-set_same f.values r.field (value r) (pos 0) (ltb-true _ _ q)) (g r (rw p at h))

        by : (t : Bool) → has done r.piece ≡ t → Q (get (when t then set_by r f else f) k)
        by true q = inside (other (known r.piece) _ (sub r.piece q) split.0) _ _ refl refl
        by false q = z

    pub one_more : (p : ℕ) → known p ≡ true → times p done ≡ 0 → (rs : List Setting) → in_pairs known rs ≡ true → (f : Fields)
        → filled_by rs (p ∷ []) m (filled_by rs done m f) ≡ filled_by rs (p ∷ done) m f
    unfolding filled_by times
    one_more p kp z [] e f = refl
    one_more p kp z (r ∷ rs) e f = by (eqb r.piece p) refl (λ g. one_more p kp z rs split.1 g)
      where
        split : (not (known r.piece) || among known (apart r) 0 rs ≡ true) × (in_pairs known rs ≡ true)
        split = both (not (known r.piece) || among known (apart r) 0 rs) _ e

        by : (t : Bool) → eqb r.piece p ≡ t → ((g : Fields) → filled_by rs (p ∷ []) m (filled_by rs done m g) ≡ filled_by rs (p ∷ done) m g)
            → filled_by (r ∷ rs) (p ∷ []) m (filled_by (r ∷ rs) done m f) ≡ filled_by (r ∷ rs) (p ∷ done) m f
        by true q ih =
            let same : r.piece ≡ p = eqb-true _ _ q in
            let none : times r.piece done ≡ 0 = rw same z in
            let before : filled_by (r ∷ rs) done m f ≡ filled_by rs done m f = rw none in
            rw (before, q, none) (
            ap (filled_by rs (p ∷ []) m) (put_past r 0 rs (other (known r.piece) _ (rw same kp) split.0) f) ∙ ih (set_by r f))
        by false q ih = rw q (ih _)
