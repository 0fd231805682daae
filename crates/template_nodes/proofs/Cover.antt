-- Every template is covered by its nodes, whatever its bytes, in both modes. Assumes nothing.
-- `covered`: nothing of a template is lost but quotes, backslashes, prefixes and suffixes. Its nodes are in order, do
-- not overlap and have a byte at least, and the bytes of a pattern's node are its name. The idea: each step is one of
-- the ways in which `Covers` goes on (`Taken`), and nodes that cover a text are in order (`in_order`).
-- `step_taken`: what a step takes. `no_pattern`: the kind of a literal is no pattern's.
-- `never_lost`: without a node, a byte other than a quote is not covered.
use mathlib.Core.Path.{◌≡◌, ◌∙◌, refl, sym, ap}
use mathlib.Core.Bool.{Bool, true, false, not, and-false}
use mathlib.Core.List.{List, [], ◌∷◌, ◌++◌, append_assoc}
use Prim.Native.Nat.{ℕ, zero, suc, ◌+◌, ◌<◌, ◌≤◌}
use native.Mathlib.Nat.{add-zero}
use native.Mathlib.Numerals.{add-one}
use native.Mathlib.Omega.{arith}
use borrow.Author.Tests.{eqb-true, lt-ltb, le-ltb, ltb-true, ltb-false}
use lib.Dec.{eqb, ltb}
use lib.ListN.{length, drop, take, length-append, length-drop, take-append-drop, drop_of_length-le}
use lib.Seq.{slice, drop-cons, drop-drop, get_or-drop, get_or-take, length-take-le, drop-append_seam, take-append-add, take-append_seam}
use Rattle.std.specs.Prelude.{Option, None, Some}
use Rattle.base_notation.specs.Choice.{when◌then◌else◌}
use Rattle.base_notation.specs.Text.{byte_at}
use Rattle.base_notation.proofs.Bytes.{byte_within}
use Rattle.base_notation.proofs.Cases.{both, by_if}
use Rattle.base_accents.specs.Accents.{measure_of}
use Rattle.base_accents.proofs.Measures.{count, measure_left}
use Rattle.base_chars.specs.Class.{is_separator, is_space}
use Rattle.template_patterns.specs.Affixes.{affix_length, bit_at}
use Rattle.template_patterns.specs.Patterns.{name_of}
use Rattle.template_patterns.specs.Search.{found_pattern, pattern_at}
use Rattle.template_patterns.specs.declared.Found.{Found}
use Rattle.template_patterns.proofs.Affixes.{AffixThere, affix_there}
use Rattle.template_patterns.proofs.Names.{There, name_there, name_length}
use Rattle.template_patterns.proofs.Search.{found_range, found_name}
use Rattle.template_nodes.specs.Cover.{Covers, at_end, at_quote, at_prefix, at_name, at_character, at_backslash, IsAffix, IsCharacter, InOrder, Covered}
use Rattle.template_nodes.specs.Template.{action, action_at, character, separator, space, quote, backslash, kind_of, char_at, char_place, escapes, literal_at, skip, element_of, plain_at, step_at, nodes_from, nodes_by, made_by}
use Rattle.template_nodes.specs.declared.Node.{Node}
use Rattle.template_nodes.specs.declared.Step.{Step}

-- ---- what is found at a place is found at the front of what is left there
module _ (t : List ℕ) (at : ℕ) where
  byte_left : byte_at (drop at t) 0 ≡ byte_at t at
  byte_left = get_or-drop at t 0 0 ∙ ap (byte_at t) (add-zero at)

  more_left : ltb 1 (length (drop at t)) ≡ ltb (at + 1) (length t)
  more_left = by (ltb (at + 1) (length t)) refl
    where
      by : (z : Bool) → ltb (at + 1) (length t) ≡ z → ltb 1 (length (drop at t)) ≡ z
      by true e = lt-ltb 1 (length (drop at t)) (omega (arith, length-drop at t, ltb-true (at + 1) (length t) e))
      by false e = le-ltb 1 (length (drop at t)) (omega (arith, length-drop at t, ltb-false (at + 1) (length t) e))

  escapes_left : (quoted : Bool) → escapes (drop at t) 0 quoted ≡ escapes t at quoted
  escapes_left true = rw (byte_left, more_left)
  escapes_left false = rw (byte_left, get_or-drop at t 1 0)

-- ---- steps
-- the character at p, with the rest of the template after it
record Character (accents : Bool) (t : List ℕ) (p : ℕ) : Type 0 where
  c : List ℕ
  size : length c ≡ measure_of accents t p
  first : byte_at c 0 ≡ byte_at t p
  is : IsCharacter accents c (drop (p + length c) t)
  left : c ++ drop (p + length c) t ≡ drop p t
  within : p + length c ≤ length t

char_there : (accents : Bool) (t : List ℕ) (p : ℕ) → p < length t → Character accents t p
char_there accents t p h =
    let n = measure_of accents t p in
    let measured = count accents t p in
    let c = take n (drop p t) in
    let size : length c ≡ n = length-take-le n (drop p t) (omega (arith, measured.within, length-drop p t)) in
    let left : c ++ drop (p + length c) t ≡ drop p t =
    ap (λ (k : ℕ). c ++ drop (p + k) t) size ∙ ap (λ (r : List ℕ). c ++ r) (sym (drop-drop n p t)) ∙ take-append-drop n (drop p t) in
    record {
      c = c;
      size = size;
      first = get_or-take n (drop p t) 0 0 (omega (arith, measured.some)) ∙ byte_left t p;
      is = record { some = omega (arith, size, measured.some); one = size ∙ sym (measure_left t p accents) ∙ ap (λ (r : List ℕ). measure_of accents r 0) (sym left) };
      left = left;
      within = omega (arith, size, measured.within);
    }

module _ (accents : Bool) (t : List ℕ) where
  -- what a step from a place takes is covered by the node that it makes, if it makes one
  pub record Taken (at : ℕ) (quoted : Bool) (s : Step) : Type 0 where
    pub on : at < s.next
    pub within : s.next ≤ length t
    pub covers : (ns : List Node) → Covers accents s.quoted s.next (drop s.next t) ns → Covers accents quoted at (drop at t) (made_by s ++ ns)

  -- the literal at p
  abbrev literal_step : Bool → ℕ → Step
  literal_step quoted p = char_at accents t p (when quoted then character else kind_of (byte_at t p)) quoted

  char_taken : (at : ℕ) (quoted : Bool) → eqb (byte_at t at) quote ≡ false → escapes t at quoted ≡ false → Character accents t at → Taken at quoted (literal_step quoted at)
  char_taken at quoted n e char =
      record {
        on = omega (arith, char.size, char.is.some);
        within = omega (arith, char.size, char.within);
        covers = λ ns k.
            rw (← char.size, ← char.first, ← char.left)
            (at_character {quoted = quoted} {t = drop (at + length char.c) t} char.c char.is (rw char.first n) (rw char.left (escapes_left t at quoted ∙ e)) (rw (← char.size) at k));
      }

  escaped_taken : (at : ℕ) (quoted : Bool) → byte_at t at ≡ backslash → at < length t → escapes t at quoted ≡ true → Character accents t (at + 1)
      → Taken at quoted (literal_step quoted (at + 1))
  escaped_taken at quoted b h e char =
      let left : drop at t ≡ (backslash ∷ char.c) ++ drop (at + 1 + length char.c) t = drop-cons t at 0 h ∙ rw (b, ← add-one at, char.left) in
      record {
        on = omega arith;
        within = omega (arith, char.size, char.within);
        covers = λ ns k.
            rw (left, ← char.size, ← char.first)
            (at_backslash {quoted = quoted} {t = drop (at + 1 + length char.c) t} char.c char.is (ap (λ (r : List ℕ). escapes r 0 quoted) (sym left) ∙ escapes_left t at quoted ∙ e) (rw (← char.size) at k));
      }

  -- after a backslash that escapes there is a character
  one_more : (at : ℕ) (quoted : Bool) → (when quoted then ltb (at + 1) (length t) else eqb (byte_at t (at + 1)) quote) ≡ true → at + 1 < length t
  one_more at true e = ltb-true _ _ e
  one_more at false e = byte_within t (at + 1) (λ z. omega (arith, eqb-true (byte_at t (at + 1)) quote e))

  -- a quote is skipped, anything else is a literal character
  literal_taken : (at : ℕ) (quoted : Bool) → at < length t → Taken at quoted (literal_at accents t at quoted)
  unfolding literal_at char_place
  literal_taken at quoted h =
      by_if (Taken at quoted) (eqb (byte_at t at) quote) (skip (at + 1) (not quoted)) _
      (λ e. record {
        on = omega arith;
        within = omega arith;
        covers = λ ns k. rw (drop-cons t at 0 h, eqb-true (byte_at t at) quote e, ← add-one at) (at_quote k);
      })
      (λ n. by_if (λ (p : ℕ). Taken at quoted (literal_step quoted p)) (escapes t at quoted) (at + 1) at
      (λ e. let tests = both (eqb (byte_at t at) backslash) _ e in
      escaped_taken at quoted (eqb-true _ _ tests.0) h e (char_there accents t (at + 1) (one_more at quoted tests.1)))
      (λ e. char_taken at quoted n e (char_there accents t at h)))

  -- the letters of an affix are one
  an_affix : {wanted : Bool} {at : ℕ} (a : AffixThere wanted t at) → IsAffix wanted a.name
  an_affix a = a.size ∙ ap affix_length (sym a.same)

  -- a prefix that is dropped
  dropped : (at : ℕ) → AffixThere true t at → (ns : List Node) → Covers accents false (at + affix_length (bit_at true t at)) (drop (at + affix_length (bit_at true t at)) t) ns
      → Covers accents false at (drop at t) ns
  dropped at prefix ns k = rw prefix.there.rest (at_prefix prefix.name (an_affix prefix) (rw (← prefix.size) at k))

  -- a pattern between its prefix and its suffix
  pattern_taken : (at k : ℕ) (prefix : AffixThere true t at) → k < 112 → There (name_of k) t (at + length prefix.name)
      → AffixThere false t (at + length prefix.name + length (name_of k))
      → Taken at false (action_at accents t (at + length prefix.name) (bit_at true t at) (found_pattern k (length (name_of k))))
  pattern_taken at k prefix known name suffix =
      let left : drop at t ≡ prefix.name ++ name_of k ++ suffix.name ++ drop (at + length prefix.name + length (name_of k) + length suffix.name) t =
      prefix.there.rest ∙ rw (name.rest, suffix.there.rest) (simp append_assoc) in
      record {
        on = omega (arith, (name_length k known).0);
        within = omega (arith, suffix.size, suffix.there.within);
        covers = λ ns rest.
            rw (left, ← prefix.same, ← suffix.same)
            (at_name prefix.name k suffix.name (an_affix prefix) known (an_affix suffix) (rw (← suffix.size) at rest));
      }

  -- a pattern, or a literal after a prefix that is dropped
  element_taken : (at : ℕ) (f : Option Found) → pattern_at t (at + affix_length (bit_at true t at)) ≡ f → at + affix_length (bit_at true t at) < length t
      → Taken at false (element_of accents f t (at + affix_length (bit_at true t at)) (bit_at true t at))
  element_taken at None e h =
      let after = literal_taken (at + affix_length (bit_at true t at)) false h in
      record {
        on = omega (arith, after.on);
        within = after.within;
        covers = λ ns k. dropped at (affix_there true t at (omega arith)) _ (after.covers ns k);
      }
  element_taken at (Some f) e h =
      let prefix = affix_there true t at (omega arith) in
      let found : pattern_at t (at + length prefix.name) ≡ Some f = rw prefix.size e in
      let known = (found_range t (at + length prefix.name) f found).0 in
      let same = found_name t (at + length prefix.name) f found in
      let name = name_there f.number known t (at + length prefix.name) prefix.there.within same.1 in
      rw (← prefix.size, same.0)
      (pattern_taken at f.number prefix known name (affix_there false t (at + length prefix.name + length (name_of f.number)) name.within))

  plain_taken : (at : ℕ) → at < length t → Taken at false (plain_at accents t at)
  unfolding plain_at
  plain_taken at h =
      let start = at + affix_length (bit_at true t at) in
      let prefix = affix_there true t at (omega arith) in
      by_if (Taken at false) (ltb start (length t)) _ (skip start false)
      (λ e. element_taken at (pattern_at t start) refl (ltb-true _ _ e))
      (λ e. record {
        on = omega (arith, ltb-false start (length t) e);
        within = omega (arith, prefix.size, prefix.there.within);
        covers = λ ns k. dropped at prefix ns k;
      })

  pub step_taken : (at : ℕ) (quoted : Bool) → at < length t → Taken at quoted (step_at accents t at quoted)
  unfolding step_at
  step_taken at true h = literal_taken at true h
  step_taken at false h = plain_taken at h

  -- ---- all steps
  covers_from : (fuel at : ℕ) (quoted : Bool) → length t ≤ at + fuel → at ≤ length t → Covers accents quoted at (drop at t) (nodes_from accents fuel t at quoted)
  unfolding nodes_from
  covers_from zero at quoted enough h = rw (drop_of_length-le t {i = at} (omega arith)) at_end
  covers_from (suc fuel) at quoted enough h =
      by_if (Covers accents quoted at (drop at t)) (ltb at (length t)) _ []
      (λ e. let s = step_at accents t at quoted in
      let taken = step_taken at quoted (ltb-true _ _ e) in
      taken.covers (nodes_from accents fuel t s.next s.quoted) (covers_from fuel s.next s.quoted (omega (arith, taken.on)) taken.within))
      (λ e. rw (drop_of_length-le t {i = at} (ltb-false _ _ e)) at_end)

-- ---- in order
-- an earlier place
earlier : (t : List ℕ) (from at : ℕ) (ns : List Node) → from ≤ at → InOrder t at ns → InOrder t from ns
earlier t from at [] h o = tt
earlier t from at (n ∷ ns) h o = (omega (arith, o.0), o.1, o.2)

-- a part of the template is within it, and is what is from its place on
part : (t before c after : List ℕ) (at : ℕ) → t ≡ before ++ (c ++ after) → length before ≡ at → (at + length c ≤ length t) × (slice at (at + length c) t ≡ c)
part t before c after at e l = (
  omega (arith, ap (λ (r : List ℕ). length r) e, length-append before (c ++ after), length-append c after),
  rw (e, ← l, take-append-add before (c ++ after) (length c), take-append_seam c after) (drop-append_seam before c),
)

-- the part after it
further : (t before c after : List ℕ) (at : ℕ) → t ≡ before ++ (c ++ after) → length before ≡ at → (t ≡ (before ++ c) ++ after) × (length (before ++ c) ≡ at + length c)
further t before c after at e l = (e ∙ sym (append_assoc before c after), length-append before c ∙ rw l)

-- a literal is no pattern
pub no_pattern : (quoted : Bool) (b : ℕ) → (when quoted then character else kind_of b) ≡ action → ⊥
unfolding kind_of
no_pattern true b e = omega (arith, e)
no_pattern false b e =
    by_if (λ (k : ℕ). k ≡ action → ⊥) (is_separator b) separator (when is_space b then space else character) (λ p q. omega (arith, q))
    (λ p. by_if (λ (k : ℕ). k ≡ action → ⊥) (is_space b) space character (λ p q. omega (arith, q)) (λ p q. omega (arith, q))) e

in_order : {accents quoted : Bool} {at : ℕ} {rest : List ℕ} {ns : List Node} → Covers accents quoted at rest ns → (t before : List ℕ) → t ≡ before ++ rest → length before ≡ at → InOrder t at ns
in_order at_end t before e l = tt
in_order (at_quote {at = at} {t = rest} {ns = ns} k) t before e l =
    let next = further t before (quote ∷ []) rest at e l in
    earlier t at (at + 1) ns (omega arith) (in_order k t (before ++ quote ∷ []) next.0 next.1)
in_order (at_prefix {at = at} {t = rest} {ns = ns} prefix a k) t before e l =
    let next = further t before prefix rest at e l in
    earlier t at (at + length prefix) ns (omega arith) (in_order k t (before ++ prefix) next.0 next.1)
in_order (at_name {at = at} {t = rest} {ns = ns} prefix number suffix a known b k) t before e l =
    let whole : prefix ++ name_of number ++ suffix ++ rest ≡ prefix ++ (name_of number ++ (suffix ++ rest)) = simp append_assoc in
    let at_its_name = further t before prefix (name_of number ++ (suffix ++ rest)) at (e ∙ ap (λ (r : List ℕ). before ++ r) whole) l in
    let start = at + length prefix in
    let after_name = further t (before ++ prefix) (name_of number) (suffix ++ rest) start at_its_name.0 at_its_name.1 in
    let end = start + length (name_of number) in
    let next = further t (before ++ prefix ++ name_of number) suffix rest end after_name.0 after_name.1 in
    let here = part t (before ++ prefix) (name_of number) (suffix ++ rest) start at_its_name.0 at_its_name.1 in (
      omega arith,
      record { some = (name_length number known).0; within = here.0; name = λ q. (known, here.1) },
      earlier t end (end + length suffix) ns (omega arith) (in_order k t (before ++ prefix ++ name_of number ++ suffix) next.0 next.1),
    )
in_order (at_character {quoted = quoted} {at = at} {t = rest} {ns = ns} c is no_quote plain k) t before e l =
    let next = further t before c rest at e l in
    let here = part t before c rest at e l in (
      omega arith,
      record { some = is.some; within = here.0; name = λ q. absurd (no_pattern quoted (byte_at c 0) q) },
      in_order k t (before ++ c) next.0 next.1,
    )
in_order (at_backslash {quoted = quoted} {at = at} {t = rest} {ns = ns} c is escape k) t before e l =
    let at_char = further t before (backslash ∷ []) (c ++ rest) at e l in
    let next = further t (before ++ backslash ∷ []) c rest (at + 1) at_char.0 at_char.1 in
    let here = part t (before ++ backslash ∷ []) c rest (at + 1) at_char.0 at_char.1 in (
      omega arith,
      record { some = is.some; within = here.0; name = λ q. absurd (no_pattern quoted (byte_at c 0) q) },
      in_order k t (before ++ backslash ∷ [] ++ c) next.0 next.1,
    )

pub covered : (accents : Bool) (t : List ℕ) → Covered accents t
unfolding nodes_by
covered accents t =
    let whole = covers_from accents t (length t) 0 false (omega arith) (omega arith) in
    record { whole = whole; each = in_order whole t [] refl refl }

-- ---- what is not covered
one_byte : {accents quoted : Bool} {at : ℕ} {rest : List ℕ} {ns : List Node} → Covers accents quoted at rest ns → (b : ℕ) → (b ≡ quote → ⊥) → rest ≡ b ∷ [] → ns ≡ [] → ⊥
unfolding bit_at
one_byte at_end b n e none = omega (arith, ap (λ (r : List ℕ). length r) e)
one_byte (at_quote k) b n e none = n (sym (ap (λ (r : List ℕ). byte_at r 0) e))
one_byte (at_prefix [] a k) b n e none = one_byte k b n e none
one_byte (at_prefix (x ∷ []) a k) b n e none = let odd : ◌≡◌ {A = ℕ} 1 0 = simp and-false at a in omega arith
one_byte (at_prefix (x ∷ y ∷ s) a k) b n e none = omega (arith, ap (λ (r : List ℕ). length r) e)
one_byte (at_name prefix number suffix a known c k) b n e none = omega (arith, ap (λ (l : List Node). length l) none)
one_byte (at_character c is no_quote plain k) b n e none = omega (arith, ap (λ (l : List Node). length l) none)
one_byte (at_backslash c is escape k) b n e none = omega (arith, ap (λ (l : List Node). length l) none)

pub never_lost : (accents quoted : Bool) (at b : ℕ) → (b ≡ quote → ⊥) → Covers accents quoted at (b ∷ []) [] → ⊥
never_lost accents quoted at b n k = one_byte k b n refl refl
