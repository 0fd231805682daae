-- The parts answer by its first tests: limits, and UTF-8. Assumes nothing.
-- `long_template`, `long_input`: a template or an input over its limit is refused as too long.
-- `bad_text`: where both are within their limits, and one of them is not UTF-8, that is refused.
-- `read_by`, `by_nodes`: the answer to any others is what the nodes make; to a template in UTF-8 and any input it is
-- that of its nodes.
use mathlib.Core.Path.{◌≡◌, refl, sym}
use mathlib.Core.Bool.{Bool, true, false, not, ◌&&◌, false≢true}
use mathlib.Core.List.{List}
use Prim.Native.Nat.{ℕ, ◌<◌, ◌≤◌}
use borrow.Author.Tests.{lt-ltb, le-ltb}
use lib.ListN.{length}
use Rattle.base_notation.specs.Choice.{when◌then◌else◌}
use Rattle.base_notation.proofs.Cases.{both}
use Rattle.base_settings.specs.Limits.{template_limit, input_limit}
use Rattle.base_settings.specs.declared.Settings.{Settings}
use Rattle.base_refusals.specs.declared.Refusal.TheVariants.{TooLong, NotUtf8}
use Rattle.base_chars.specs.Utf8.{well_formed}
use Rattle.template_nodes.specs.Template.{nodes_by}
use Rattle.moment_parts.specs.Parts.{answer_by, parts_by, parts_of, parts_read, refused_by}

-- by a template
module _ (set : Settings) (t s : List ℕ) where
  pub long_template : template_limit set < length t → parts_of set t s ≡ refused_by TooLong
  unfolding parts_of
  long_template h = rw (lt-ltb (template_limit set) (length t) h)

  module _ (short : length t ≤ template_limit set) where
    pub long_input : input_limit set < length s → parts_of set t s ≡ refused_by TooLong
    unfolding parts_of
    long_input h = rw (le-ltb (template_limit set) (length t) short, lt-ltb (input_limit set) (length s) h)

    module _ (small : length s ≤ input_limit set) where
      pub bad_text : (well_formed t && well_formed s) ≡ false → parts_of set t s ≡ refused_by NotUtf8
      unfolding parts_of parts_read
      bad_text e =
          rw (le-ltb (template_limit set) (length t) short, le-ltb (input_limit set) (length s) small) (split (well_formed t) (well_formed s) e)
        where
          split : (a b : Bool) → (a && b) ≡ false
              → (when not a then refused_by NotUtf8 else when not b then refused_by NotUtf8 else answer_by set.strict (nodes_by set.accents t) t s) ≡ refused_by NotUtf8
          split false b e = refl
          split true false e = refl
          split true true e = absurd (false≢true (sym e))

      pub read_by : (well_formed t && well_formed s) ≡ true → answer_by set.strict (nodes_by set.accents t) t s ≡ parts_of set t s
      unfolding parts_of parts_read
      read_by e =
          let tests = both (well_formed t) (well_formed s) e in
          rw (le-ltb (template_limit set) (length t) short, le-ltb (input_limit set) (length s) small, tests.0, tests.1)

    -- a template in UTF-8, by its nodes
    pub by_nodes : well_formed t ≡ true → parts_by set (nodes_by set.accents t) t s ≡ parts_of set t s
    unfolding parts_of parts_by
    by_nodes e = rw (le-ltb (template_limit set) (length t) short, e)
