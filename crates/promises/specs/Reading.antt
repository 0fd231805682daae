-- What the contract of `read` promises. It is one of the promises of Promises.antt, in a file of its own: that file
-- names the theorems of functions, which no clause may rest on.
use Rattle.std.specs.Prelude.{◌≡◌, List, ℕ}
use Rattle.base_settings.specs.declared.Settings.{Settings}
use Rattle.template_nodes.specs.Template.{nodes_by}
use Rattle.moment_parts.specs.Parts.{parts_of}
use Rattle.moment_parts.specs.Ranges.{Answered}
use Rattle.moment_parts.specs.Patterns.{NamesOwn}
use Rattle.moment_instants.specs.ByTemplate.{timestamp_of, date_of}
use Rattle.moment_instants.specs.Ranges.{InstantAnswered, DayAnswered}
use Rattle.promises.specs.declared.Readings.{Readings}

-- Demands 1 and 2 together, on the function that reads: r is the answers of the definitions, and each is in range
pub record RightAndSafe (set : Settings) (t s : List ℕ) (r : Readings) : Type 0 where
  pub parts : r.parts ≡ parts_of set t s
  pub instant : r.instant ≡ timestamp_of set t s
  pub day : r.day ≡ date_of set t s
  pub parts_safe : Answered set.strict r.parts
  pub instant_safe : InstantAnswered set.strict r.instant
  pub day_safe : DayAnswered set.strict r.day
  pub names : NamesOwn (nodes_by set.accents t) r.parts
