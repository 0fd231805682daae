-- A pattern that reads an offset and is refused names itself. Assumes nothing.
-- `read_offset_own`, `read_minutes_own`: where P holds of a node's pattern, it holds of the pattern that a refusal
-- names.
use Rattle.std.specs.Prelude.{Err, Ok, Result}
use mathlib.Core.Bool.{Bool, not, ◌&&◌}
use mathlib.Core.List.{List}
use Prim.Native.Nat.{ℕ, ◌+◌}
use Prim.Native.Char.{code}
use lib.Dec.{eqb}
use Rattle.base_notation.specs.Text.{byte_at}
use Rattle.base_notation.proofs.Cases.{by_if}
use Rattle.base_refusals.specs.Report.{report_of}
use Rattle.base_chars.specs.Class.{is_letter}
use Rattle.read_integers.specs.Number.{number_at}
use Rattle.read_integers.specs.declared.Number.{Number}
use Rattle.read_integers.proofs.Own.{NumberNames, number_own}
use Rattle.template_nodes.specs.declared.Node.{Node}
use Rattle.read_fields.specs.Fields.{conflicts, get, put, tzsign, tzh, tzm}
use Rattle.read_fields.specs.Tasks.{hours, no_letter}
use Rattle.read_fields.specs.declared.Fields.{Fields}
use Rattle.read_fields.specs.declared.Place.{Place}
use Rattle.read_fields.specs.declared.Reading.{Reading}
use Rattle.read_fields.specs.declared.Task.{Task}
use Rattle.read_fields.proofs.Own.{ReadingNames, onward_own}
use Rattle.read_offsets.specs.Offsets.{sign_of, past_sign, stored_offset, colon_minutes, then_minutes, read_offset, with_sign, read_offset_minutes}
use Rattle.base_refusals.specs.declared.Refusal.{Refusal}

module _ (P : ℕ → Type 0) (s : List ℕ) (n : Node) (own : P n.pattern) (free : Bool) where
  -- two digits at a place, into a field
  stored_own : (field : ℕ) (a : Result Number Refusal) → NumberNames P a → (f : Fields) (p : Place) → ReadingNames P (stored_offset n field a f p)
  unfolding stored_offset report_of
  stored_own field (Err why) named f p = named
  stored_own field (Ok r) named f p = by_if (ReadingNames P) (conflicts (get f field) r.value) _ _ (λ e. own) (λ e. tt)

  digits_own : (field at : ℕ) (f : Fields) (p : Place) → ReadingNames P (stored_offset n field (number_at s at 2 n.pattern free) f p)
  digits_own field at f p = stored_own field (number_at s at 2 n.pattern free) (number_own P n.pattern own s at 2 free) f p

  -- the minutes after a colon, and after the hours
  colon_own : (rule : ℕ) (f : Fields) (p : Place) → ReadingNames P (colon_minutes s n free rule f p)
  unfolding colon_minutes
  colon_own rule f p =
      by_if (ReadingNames P) (not (eqb rule hours) && eqb (byte_at s p.at) (code ":")) _ _ (λ e. digits_own tzm (p.at + 1) f p) (λ e. tt)

  then_own : (rule : ℕ) (r : Reading) → ReadingNames P r → ReadingNames P (then_minutes s n free rule r)
  unfolding then_minutes
  then_own rule r named = onward_own P r _ named (colon_own rule r.fields r.place)

  pub read_offset_own : (task : Task) (f : Fields) (p : Place) → ReadingNames P (read_offset s n free task f p)
  unfolding read_offset report_of
  read_offset_own task f p =
      by_if (ReadingNames P) (eqb task.rule no_letter && is_letter (byte_at s p.at)) _ _ (λ e. own)
      (λ e. then_own task.rule _ (digits_own tzh (past_sign s p.at) (put f tzsign (sign_of s p)) p))

  pub read_minutes_own : (f : Fields) (p : Place) → ReadingNames P (read_offset_minutes s n free f p)
  read_minutes_own f p = digits_own tzm p.at (with_sign f) p
