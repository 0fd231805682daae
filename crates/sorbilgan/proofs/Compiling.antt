-- What compiling answers, by its tests.
-- `long`: -1 for a template over its limit. `ill_formed`: -2 for one that is not UTF-8.
-- `parsed`: else the bytes of its nodes, as `parse_format` stored them. Assumes nothing.
use mathlib.Core.Path.{◌≡◌, refl}
use mathlib.Core.Bool.{true, false}
use mathlib.Core.List.{List}
use Prim.Native.Nat.{ℕ, ◌*◌, ◌<◌, ◌≤◌}
use native.Mathlib.Omega.{arith}
use borrow.Author.Tests.{lt-ltb, le-ltb}
use lib.IntN.{negsuc}
use lib.ListN.{length}
use mir.Facts.{to_z_pos}
use mir.Syntax.{w64}
use mir.Val.{to_z}
use Rattle.base_settings.specs.Limits.{template_limit}
use Rattle.base_settings.specs.declared.Settings.{Settings}
use Rattle.base_chars.specs.Utf8.{well_formed}
use Rattle.template_nodes.proofs.Encoding.{encoded-length}
use Rattle.template_nodes.specs.Bytes.{Parsed}
use Rattle.template_nodes.specs.Template.{nodes_by}
use Rattle.sorbilgan.specs.Compiled.{CompiledTo, compiled_to}

module _ (set : Settings) (t before : List ℕ) where
  pub long : template_limit set < length t → CompiledTo set t before before (negsuc 0)
  unfolding compiled_to
  long h = record { is = rw (lt-ltb (template_limit set) (length t) h); buffer = refl }

  module _ (short : length t ≤ template_limit set) where
    pub ill_formed : well_formed t ≡ false → CompiledTo set t before before (negsuc 1)
    unfolding compiled_to
    ill_formed e = record { is = rw (le-ltb (template_limit set) (length t) short, e); buffer = refl }

    pub parsed : well_formed t ≡ true → {after : List ℕ} {r : ℕ} → Parsed (nodes_by set.accents t) before after r → CompiledTo set t before after (to_z w64 (6 * r))
    unfolding compiled_to
    parsed e {after} {r} p =
        rw (to_z_pos w64 {n = 6 * r} (omega (arith, p.few)))
        (record {
          is = rw (le-ltb (template_limit set) (length t) short, e, encoded-length (nodes_by set.accents t), p.count);
          buffer = rw p.count p.is;
        })
