-- Callers with different limits. Assumes nothing.
-- `within_both`: what is within the limits of both has equal answers.
-- `cards_and_pages`: so does a pair within the limits of the flash cards, for these and the exercise pages.
use mathlib.Core.Path.{◌≡◌, refl, ap}
use mathlib.Core.List.{List}
use Prim.Native.Nat.{ℕ}
use native.Mathlib.Omega.{arith}
use borrow.Author.Tests.{le-ltb}
use lib.ListN.{length}
use Rattle.base_settings.specs.Limits.{card_limits, input_limit, limits_compute, page_limits, template_limit, with_limits}
use Rattle.base_settings.specs.declared.Settings.{Settings}
use Rattle.moment_instants.specs.ByTemplate.{date_of, day_by, instant_by, timestamp_of}
use Rattle.moment_parts.specs.Parts.{parts_by, parts_of}
use Rattle.template_nodes.specs.declared.Node.{Node}
use Rattle.write_text.specs.Writer.{nodes_limit, written_in, written_to}
use Rattle.sorbilgan.specs.Callers.{CardsAndPages, EqualAnswers, Within, WithinBoth}
use Rattle.sorbilgan.specs.Compiled.{compiled_to}

module _ (a b : Settings) (alike : a.strict ≡ b.strict) (same : a.accents ≡ b.accents) (t s : List ℕ) (in_a : Within a t s) (in_b : Within b t s) where
  parts : parts_of a t s ≡ parts_of b t s
  unfolding parts_of
  parts =
      rw (
        le-ltb (template_limit a) (length t) in_a.template,
        le-ltb (template_limit b) (length t) in_b.template,
        le-ltb (input_limit a) (length s) in_a.input,
        le-ltb (input_limit b) (length s) in_b.input,
        alike,
        same,
      )

  by_nodes : (ns : List Node) → parts_by a ns t s ≡ parts_by b ns t s
  unfolding parts_by
  by_nodes ns = rw (le-ltb (input_limit a) (length s) in_a.input, le-ltb (input_limit b) (length s) in_b.input, alike)

  equal : EqualAnswers a b t s
  unfolding timestamp_of date_of written_to written_in compiled_to
  equal = record {
    parts = parts;
    instant = ap instant_by parts;
    day = ap day_by parts;
    written = λ m room. rw (le-ltb (template_limit a) (length t) in_a.template, le-ltb (template_limit b) (length t) in_b.template);
    compiled = rw (le-ltb (template_limit a) (length t) in_a.template, le-ltb (template_limit b) (length t) in_b.template, same);
    parts_by_nodes = by_nodes;
    instant_by_nodes = λ ns. ap instant_by (by_nodes ns);
    day_by_nodes = λ ns. ap day_by (by_nodes ns);
    written_by = λ c few_a few_b m room. rw (le-ltb (nodes_limit a) (length c) few_a, le-ltb (nodes_limit b) (length c) few_b);
  }

pub within_both : WithinBoth
within_both set k l t s = equal (with_limits k set) (with_limits l set) refl refl t s

pub cards_and_pages : CardsAndPages
unfolding limits_compute
cards_and_pages set t s short small =
    within_both set card_limits page_limits t s (record { template = short; input = small })
    (record { template = omega arith; input = omega arith })
