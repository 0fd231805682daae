-- The accents mode.
-- `accents_mode`: what is promised of it. Assumes nothing.
use mathlib.Core.Path.{refl}
use Rattle.base_accents.proofs.Measures.{letter_whole, mark_alone}
use Rattle.base_settings.specs.Limits.{limits_compute}
use Rattle.moment_parts.specs.Parts.{parts_by}
use Rattle.template_nodes.proofs.Joined.{by_what_is_before}
use Rattle.write_text.specs.Full.{is_full}
use Rattle.write_text.specs.Writer.{written_in, written_to}
use Rattle.sorbilgan.specs.Accents.{AccentsMode}

pub accents_mode : AccentsMode
unfolding parts_by written_to written_in is_full limits_compute
accents_mode = record {
  whole = letter_whole;
  alone = mark_alone;
  before = by_what_is_before;
  by_nodes = λ b set ns t s. refl;
  written = λ b set t m room. refl;
  written_by = λ b set c t m room. refl;
  full = λ b set t. refl;
}
