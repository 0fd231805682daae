-- A pattern that reads a word and is refused names itself. Assumes nothing.
-- `read_word_own`: where P holds of a node's pattern, it holds of the pattern that a refusal names.
use Rattle.std.specs.Prelude.{None, Some, Option}
use mathlib.Core.List.{List}
use Prim.Native.Nat.{ℕ}
use lib.IntN.{pos}
use Rattle.base_notation.proofs.Cases.{by_if}
use Rattle.base_refusals.specs.Report.{report_of}
use Rattle.template_nodes.specs.declared.Node.{Node}
use Rattle.read_fields.specs.Fields.{conflicts, get}
use Rattle.read_fields.specs.declared.Fields.{Fields}
use Rattle.read_fields.specs.declared.Place.{Place}
use Rattle.read_fields.specs.declared.Task.{Task}
use Rattle.read_fields.proofs.Own.{ReadingNames}
use Rattle.read_words.specs.Spelling.{word_at}
use Rattle.read_words.specs.Words.{list_of, meant, read_word, stored_word}
use Rattle.read_words.specs.declared.spelling.Word.{Word}

module _ (P : ℕ → Type 0) (n : Node) (own : P n.pattern) (task : Task) (f : Fields) (p : Place) where
  stored_own : (a : Option Word) → ReadingNames P (stored_word n task a f p)
  unfolding stored_word report_of
  stored_own None = own
  stored_own (Some r) = by_if (ReadingNames P) (conflicts (get f task.field) (pos (meant task.rule r.index))) _ _ (λ e. own) (λ e. tt)

  pub read_word_own : (s : List ℕ) → ReadingNames P (read_word s n task f p)
  read_word_own s = stored_own (word_at (list_of task.operand) s p.at)
