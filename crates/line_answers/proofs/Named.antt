-- The name of a pattern in its row of the table. Assumes nothing.
-- `found_named`: the bytes of a row before its first space are the name. `none_named`, `some_named`: a pattern by its
-- test.
use mathlib.Core.Path.{◌≡◌, ◌∙◌, refl, sym}
use mathlib.Core.List.{List, [], ◌∷◌, ◌++◌}
use Prim.Native.Nat.{ℕ, zero, suc, ◌+◌, ◌-◌, ◌*◌, ◌≤◌, ◌<◌}
use native.Mathlib.Omega.{arith}
use borrow.Author.Tests.{le-ltb, lt-ltb, ne_eqb}
use lib.ListN.{length, take, drop, get_or, replicate, length-append, length-drop, length-replicate, length-take}
use lib.Seq.{ext_get_or, get_or-drop, get_or-take, take-append_seam}
use Rattle.base_notation.specs.Text.{utf8}
use Rattle.base_strtol.specs.Runs.{leading}
use Rattle.template_patterns.specs.Patterns.{name_of}
use Rattle.template_patterns.specs.Rows.{filled}
use Rattle.template_patterns.specs.Search.{name_table}
use Rattle.template_patterns.proofs.Names.{name_length, name_byte, no_space}
use Rattle.line_buffers.specs.Input.{before, Found}
use Rattle.moment_parts.specs.Patterns.{pattern_name}

-- the bytes before the spaces that fill a row
before_filled : (name : List ℕ) (n : ℕ) → ((j : ℕ) → j < length name → get_or name j 0 ≡ 32 → ⊥) → before 32 (name ++ replicate n 32) ≡ length name
unfolding leading
before_filled [] zero h = refl
before_filled [] (suc n) h = refl
before_filled (c ∷ name) n h =
    let other = h 0 (omega arith) in
    rw (ne_eqb c 32 other) (rw (before_filled name n (λ j l. h (suc j) (omega arith))))

module _ (k : ℕ) (here : k < 112) where
  abbrev row : List ℕ
  row = take 5 (drop (5 * k) name_table)

  row_size : length row ≡ 5
  unfolding name_table
  row_size = length-take 5 (drop (5 * k) name_table) ∙ omega (arith, length-drop (5 * k) name_table)

  row_is : row ≡ filled 5 (name_of k)
  row_is =
      let within = (name_length k here).1 in
      let size : length (filled 5 (name_of k)) ≡ 5 = simp (length-append, length-replicate) (omega arith) in
      ext_get_or 0 row (filled 5 (name_of k)) (row_size ∙ sym size)
      (λ j h. let in_row : j < 5 = omega (arith, row_size) in
      get_or-take 5 (drop (5 * k) name_table) j 0 in_row ∙ get_or-drop (5 * k) name_table j 0 ∙ name_byte k here j in_row)

  named : take (before 32 row) row ≡ name_of k
  named = rw (row_is, before_filled (name_of k) (5 - length (name_of k)) (no_space k here)) (take-append_seam (name_of k) (replicate (5 - length (name_of k)) 32))

  -- so they are where they are found in the table
  pub found_named : (names : List ℕ) (n r : ℕ) → names ≡ name_table → n ≡ 5 → Found (take n (drop (5 * k) names)) 0 32 r → take (r - 0) (take n (drop (5 * k) names)) ≡ name_of k
  found_named names n r e h f =
      let found_is : r ≡ 0 + before 32 row = rw (e, h) at f.is in
      let size : r - 0 ≡ before 32 row = omega arith in
      rw (e, h, size) named

pub none_named : (p : ℕ) → 112 ≤ p → pattern_name p ≡ utf8 "-"
unfolding pattern_name
none_named p h = rw (le-ltb p 112 h)

pub some_named : (p : ℕ) → p < 112 → pattern_name p ≡ name_of p
unfolding pattern_name
some_named p h = rw (lt-ltb p 112 h)
