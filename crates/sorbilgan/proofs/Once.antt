-- A template that is compiled once.
-- `compile_once`: what is read and written by a compiled template is what the template gives each time, since the nodes
-- read from the bytes are those that were put there, and what is written is the same in both modes. Assumes nothing.
use mathlib.Core.Path.{◌≡◌, ◌∙◌, ap}
use mathlib.Core.List.{List}
use Prim.Native.Nat.{ℕ, ◌*◌, ◌≤◌}
use native.Mathlib.Omega.{arith}
use borrow.Author.Tests.{le-ltb}
use lib.ListN.{length}
use Rattle.base_settings.specs.Limits.{template_limit}
use Rattle.base_settings.specs.declared.Settings.{Settings}
use Rattle.moment_instants.specs.ByTemplate.{date_of, day_by, instant_by, timestamp_of}
use Rattle.moment_parts.specs.Parts.{parts_by, parts_of}
use Rattle.moment_parts.proofs.Limits.{by_nodes}
use Rattle.template_nodes.specs.Bytes.{nodes_in}
use Rattle.template_nodes.specs.Template.{nodes_by}
use Rattle.template_nodes.specs.declared.Node.{Node}
use Rattle.template_nodes.proofs.Encoding.{encoded-length, nodes_back}
use Rattle.template_nodes.proofs.Nodes.{count_within, small_nodes}
use Rattle.write_text.specs.Writer.{nodes_limit, written_in, written_to}
use Rattle.write_text.proofs.Modes.{text_in_both, unwritten_in_both}
use Rattle.sorbilgan.specs.Compiled.{compiled}
use Rattle.sorbilgan.specs.Once.{CompileOnce}

-- the nodes are those that were put
back : (set : Settings) (t : List ℕ) → nodes_in (compiled set t) ≡ nodes_by set.accents t
back set t = nodes_back (nodes_by set.accents t) (small_nodes set.accents t)

few : {limit : ℕ} (set : Settings) (t : List ℕ) → length t ≤ limit → length (compiled set t) ≤ 6 * limit
few set t h = omega (arith, encoded-length (nodes_by set.accents t), count_within set.accents t)

pub compile_once : CompileOnce
unfolding timestamp_of date_of written_in written_to
compile_once set t short utf8 =
    let same : (s : List ℕ) → parts_by set (nodes_in (compiled set t)) t s ≡ parts_of set t s =
    λ s. ap (λ (ns : List Node). parts_by set ns t s) (back set t) ∙ by_nodes set t s short utf8 in
    record {
      parts = same;
      instant = λ s. ap instant_by (same s);
      day = λ s. ap day_by (same s);
      written = λ m room.
          rw (
            le-ltb (nodes_limit set) (length (compiled set t)) (few set t short),
            le-ltb (template_limit set) (length t) short,
            utf8,
            back set t,
            unwritten_in_both set.accents t,
            text_in_both t m set.accents,
          );
      text = λ m. rw (back set t) (text_in_both t m set.accents);
      lone = rw (back set t);
    }
