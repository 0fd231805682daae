-- The search from the first name with the same first byte on finds the first pattern of the whole table.
-- Assumes nothing.
-- `begins`: the first pattern is the first from that number on. `next`: a name that is not there is passed over.
-- `found`: a name that is there is found. `none_on`: a name that begins with another byte ends the search.
-- `none_begins`, `none_outside`: nothing is found if no name begins with the byte.
-- `head_range`: a first byte is 33 to 125.
-- `found_range`, `found_name`: what is found is one of the 112 patterns, with a name of 1 to 5 bytes that is there.
use mathlib.Core.Path.{◌≡◌, refl, ◌∙◌, sym, ap}
use mathlib.Core.Bool.{Bool, true, false, ◌&&◌, ◌||◌, not}
use mathlib.Core.List.{List, [], ◌∷◌}
use Prim.Native.Nat.{ℕ, zero, suc, ◌+◌, ◌-◌, ◌<◌, ◌≤◌}
use native.Mathlib.Nat.{add-zero, zero-add, add-suc, suc-add, le_of_suc-le-suc, not-suc-le-zero, le_refl}
use native.Mathlib.Numerals.{add-one}
use native.Mathlib.Omega.{arith}
use borrow.Author.Tests.{eqb-true, eqb-false, leb-true, ltb-true, le-leb}
use lib.Dec.{eqb, leb, ltb}
use lib.ListN.{length, get_or, drop, length-drop}
use lib.Seq.{drop-cons, drop-length, get_or-drop}
use Rattle.base_notation.proofs.Cases.{both}
use Rattle.base_notation.proofs.Table.{all_from, entry}
use Rattle.base_notation.specs.Choice.{when◌then◌else◌}
use Rattle.base_notation.specs.Text.{byte_at}
use Rattle.template_patterns.specs.Patterns.{names, name_of}
use Rattle.std.specs.Prelude.{Option, None, Some}
use Rattle.template_patterns.specs.Search.{matches_at, first_at, first_with, found_pattern, pattern_at, start_of}
use Rattle.template_patterns.specs.declared.Found.{Found}
use Rattle.template_patterns.proofs.Names.{name_is, name_length, head, matches_not}

-- x is the number of the first name that begins with c, counted from k
record First (k c : ℕ) (ns : List (List ℕ)) (x : ℕ) : Type 0 where
  from : k ≤ x
  to : x < k + length ns
  own : (i : ℕ) → k + i ≡ x → byte_at (get_or ns i []) 0 ≡ c
  others : (i : ℕ) → k + i < x → byte_at (get_or ns i []) 0 ≡ c → ⊥

-- such a number, or none where no name begins with c
abbrev FirstIs : ℕ → ℕ → List (List ℕ) → Option ℕ → Type 0
FirstIs k c ns None = (i : ℕ) → i < length ns → byte_at (get_or ns i []) 0 ≡ c → ⊥
FirstIs k c ns (Some x) = First k c ns x

first_is : (ns : List (List ℕ)) (k c : ℕ) → FirstIs k c ns (first_with k c ns)
first_is [] k c = λ i l. absurd (not-suc-le-zero l)
first_is (n ∷ ns) k c = split (eqb (byte_at n 0) c) refl (first_with (suc k) c ns) (first_is ns (suc k) c)
  where
    split : (b : Bool) → eqb (byte_at n 0) c ≡ b → (o : Option ℕ) → FirstIs (suc k) c ns o → FirstIs k c (n ∷ ns) (when b then Some k else o)
    split true q o f =
        record {
          from = omega arith;
          to = omega arith;
          own = λ i. (elim i as (λ (i : ℕ). k + i ≡ k → byte_at (get_or (n ∷ ns) i []) 0 ≡ c) [ zero ↦ λ h. eqb-true _ _ q | suc i ↦ λ h. absurd (omega (arith, h)) ]);
          others = λ i h. absurd (omega (arith, h));
        }
    split false q None f =
        λ i. (elim i as (λ (i : ℕ). i < suc (length ns) → byte_at (get_or (n ∷ ns) i []) 0 ≡ c → ⊥) [ zero ↦ λ l. eqb-false _ _ q | suc i ↦ λ l. f i (omega (arith, l)) ])
    split false q (Some x) f =
        record {
          from = omega (arith, f.from);
          to = omega (arith, f.to);
          own = λ i. (elim i as (λ (i : ℕ). k + i ≡ x → byte_at (get_or (n ∷ ns) i []) 0 ≡ c) [ zero ↦ λ h. absurd (omega (arith, h, f.from)) | suc i ↦ λ h. f.own i (omega (arith, h)) ]);
          others = λ i. (elim i as (λ (i : ℕ). k + i < x → byte_at (get_or (n ∷ ns) i []) 0 ≡ c → ⊥) [ zero ↦ λ h. eqb-false _ _ q | suc i ↦ λ h. f.others i (omega (arith, h)) ]);
        }

-- ---- the names' first bytes
abbrev implies : Bool → Bool → Bool
implies a b = not a || b

-- a name that comes after another begins with no lower byte
abbrev ordered : ℕ → List ℕ → Bool
ordered k n = all_from (λ (j : ℕ) (m : List ℕ). implies (leb k j) (leb (byte_at n 0) (byte_at m 0))) 0 names

pub sorted : (k j : ℕ) → k < 112 → j < 112 → k ≤ j → head k ≤ head j
sorted k j p q r =
    let after_k = entry ordered [] names refl k p in
    let at_j = entry (λ (j : ℕ) (m : List ℕ). implies (leb k j) (leb (byte_at (get_or names k []) 0) (byte_at m 0))) [] names after_k j q in
    leb-true _ _ (rw (le-leb k j r, name_is k, name_is j) at at_j)

abbrev printable : ℕ → List ℕ → Bool
printable k n = ltb 32 (byte_at n 0) && ltb (byte_at n 0) 126

-- each first byte is above the space and below the tilde
pub head_range : (k : ℕ) → k < 112 → (32 < head k) × (head k < 126)
head_range k p =
    let bounds = both (ltb 32 (head k)) _ (rw (name_is k) at (entry printable [] names refl k p)) in
    (ltb-true _ _ bounds.0, ltb-true _ _ bounds.1)

-- ---- the search
-- names that are not at the place are passed over
passed : (t : List ℕ) (at : ℕ) (ns : List (List ℕ)) (k n : ℕ) → ((j : ℕ) → j < n → matches_at (get_or ns j []) t at ≡ false) → n ≤ length ns → first_at k ns t at ≡ first_at (k + n) (drop n ns) t at
passed t at ns k zero h l = rw add-zero
passed t at [] k (suc n) h l = absurd (not-suc-le-zero l)
passed t at (m ∷ ns) k (suc n) h l =
    let same : k + suc n ≡ suc k + n = omega (arith, add-suc k n, suc-add k n) in
    rw (h 0 (omega arith), same) (passed t at ns (suc k) n (λ j b. h (suc j) (omega arith)) (le_of_suc-le-suc l))

module _ (t : List ℕ) (at : ℕ) where
  -- a name that begins with another byte is not there
  other : (k : ℕ) → k < 112 → (head k ≡ byte_at t at → ⊥) → matches_at (get_or names k []) t at ≡ false
  other k p n =
      let same : at + 0 ≡ at = omega arith in
      rw (name_is k) (rw same at (matches_not (name_of k) t at 0 (name_length k p).0 (λ q. n (sym q ∙ ap (byte_at t) same))))

  -- if no name from k on begins with the byte, none is found
  pub ends : (k : ℕ) → k ≤ 112 → ((j : ℕ) → k ≤ j → j < 112 → head j ≡ byte_at t at → ⊥) → first_at k (drop k names) t at ≡ None
  ends k l n =
      let names_left : length (drop k names) ≡ 112 - k = length-drop k names in
      passed t at (drop k names) k (length (drop k names))
      (λ j b. rw (get_or-drop k names j []) (other (k + j) (omega arith) (n (k + j) (omega arith) (omega arith)))) (le_refl _)
      ∙ rw (drop-length (drop k names))

  -- if no name at all does, there is no pattern
  pub none_outside : ((j : ℕ) → j < 112 → head j ≡ byte_at t at → ⊥) → pattern_at t at ≡ None
  unfolding pattern_at
  none_outside n = ends 0 (omega arith) (λ j b. n j)

  -- the number where the search begins
  start : FirstIs 0 (byte_at t at) names (start_of (byte_at t at))
  unfolding start_of
  start = first_is names 0 (byte_at t at)

  start_at : (x : ℕ) → start_of (byte_at t at) ≡ Some x → First 0 (byte_at t at) names x
  start_at x e = rw e at start

  -- without one there is no pattern
  pub none_begins : start_of (byte_at t at) ≡ None → pattern_at t at ≡ None
  none_begins e =
      let none : FirstIs 0 (byte_at t at) names None = rw e at start in
      none_outside (λ j h q. none j h (ap (λ (n : List ℕ). byte_at n 0) (name_is j) ∙ q))

  -- the names before it are passed over
  pub begins : (x : ℕ) → start_of (byte_at t at) ≡ Some x → (x < 112) × (pattern_at t at ≡ first_at x (drop x names) t at)
  unfolding pattern_at
  begins x e =
      let first = start_at x e in
      let to : x < 112 = omega (arith, first.to) in
      (to, rw (zero-add x) at (passed t at names 0 x (λ j b. other j (omega (arith, b)) (λ q. first.others j (omega (arith, b)) (ap (λ (n : List ℕ). byte_at n 0) (name_is j) ∙ q))) (omega arith)))

  -- a name that is there is found
  pub found : (k : ℕ) → k < 112 → matches_at (name_of k) t at ≡ true → first_at k (drop k names) t at ≡ Some (found_pattern k (length (name_of k)))
  found k p e = rw (drop-cons names k [] p, name_is k, e)

  -- one that is not is passed over
  pub next : (k : ℕ) → k < 112 → matches_at (name_of k) t at ≡ false → first_at k (drop k names) t at ≡ first_at (k + 1) (drop (k + 1) names) t at
  next k p e = rw (drop-cons names k [] p, name_is k, e, add-one k)

  -- the search ends where a name begins with another byte
  pub none_on : (x k : ℕ) → start_of (byte_at t at) ≡ Some x → k < 112 → x ≤ k → (head k ≡ byte_at t at → ⊥) → first_at k (drop k names) t at ≡ None
  none_on x k e p l n =
      let first = start_at x e in
      let own : head x ≡ byte_at t at = sym (ap (λ (n : List ℕ). byte_at n 0) (name_is x)) ∙ first.own x (zero-add x) in
      ends k (omega arith) (λ j b q e. n (omega (arith, sorted x k (omega arith) p l, sorted k j p q b)))

-- ---- what is found
-- p is the number, counted from k, and n the length of a name that is there
record Hit (t : List ℕ) (at k : ℕ) (ns : List (List ℕ)) (p n : ℕ) : Type 0 where
  nth : ℕ
  number : p ≡ k + nth
  inside : nth < length ns
  size : n ≡ length (get_or ns nth [])
  there : matches_at (get_or ns nth []) t at ≡ true

hit : (t : List ℕ) (at : ℕ) (ns : List (List ℕ)) (k : ℕ) (f : Found) → first_at k ns t at ≡ Some f → Hit t at k ns f.number f.len
hit t at [] k f e = cc
hit t at (m ∷ ns) k f e = split (matches_at m t at) refl (hit t at ns (suc k) f)
  where
    split : (b : Bool) → matches_at m t at ≡ b → (first_at (suc k) ns t at ≡ Some f → Hit t at (suc k) ns f.number f.len) → Hit t at k (m ∷ ns) f.number f.len
    split true q rest =
        let told : Some (found_pattern k (length m)) ≡ Some f = rw q at e in
        let same : found_pattern k (length m) ≡ f = cc in
        record {
          nth = 0;
          number = sym (ap (λ (f : Found). f.number) same) ∙ omega arith;
          inside = omega arith;
          size = sym (ap (λ (f : Found). f.len) same);
          there = q;
        }
    split false q rest =
        let h = rest (rw q at e) in
        record { nth = suc h.nth; number = omega (arith, h.number); inside = omega (arith, h.inside); size = h.size; there = h.there }

-- a pattern of the table, whose name has 1 to 5 bytes
pub found_range : (t : List ℕ) (at : ℕ) (f : Found) → pattern_at t at ≡ Some f → (f.number < 112) × (1 ≤ f.len) × (f.len ≤ 5)
unfolding pattern_at
found_range t at f e =
    let is_hit = hit t at names 0 f e in
    let same_length : f.len ≡ length (name_of is_hit.nth) = is_hit.size ∙ ap (λ (m : List ℕ). length m) (name_is is_hit.nth) in
    let one_to_five = name_length is_hit.nth is_hit.inside in
    (omega (arith, is_hit.number, is_hit.inside), omega (arith, one_to_five), omega (arith, one_to_five))

-- its name is there
pub found_name : (t : List ℕ) (at : ℕ) (f : Found) → pattern_at t at ≡ Some f → (f.len ≡ length (name_of f.number)) × (matches_at (name_of f.number) t at ≡ true)
unfolding pattern_at
found_name t at f e =
    let is_hit = hit t at names 0 f e in
    let name : get_or names is_hit.nth [] ≡ name_of f.number = name_is is_hit.nth ∙ ap name_of (sym (is_hit.number ∙ zero-add is_hit.nth)) in
    (is_hit.size ∙ ap (λ (m : List ℕ). length m) name, rw name at is_hit.there)
