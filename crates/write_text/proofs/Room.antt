-- What is written is the text, and has room. Assumes nothing.
-- `to_measured`, `in_measured`: where a length is answered, by a template or by nodes, it is the text's, and the buffer
-- is no shorter.
use Rattle.std.specs.Prelude.{Err, None, Ok, Option, Result, Some}
use mathlib.Core.Path.{◌≡◌, sym}
use mathlib.Core.Bool.{not}
use mathlib.Core.List.{List}
use Prim.Native.Nat.{ℕ, ◌≤◌}
use native.Mathlib.Omega.{arith}
use borrow.Author.Tests.{ltb-false}
use lib.Dec.{ltb}
use lib.ListN.{length}
use Rattle.base_notation.proofs.Cases.{by_if}
use Rattle.base_settings.specs.Limits.{template_limit}
use Rattle.base_settings.specs.declared.Settings.{Settings}
use Rattle.base_chars.specs.Utf8.{well_formed}
use Rattle.write_pieces.specs.Moment.{is_moment}
use Rattle.write_pieces.specs.declared.Moment.{Moment}
use Rattle.template_nodes.specs.Bytes.{nodes_in}
use Rattle.template_nodes.specs.Template.{nodes_of}
use Rattle.write_text.specs.Text.{text_of}
use Rattle.write_text.specs.Writer.{first_unwritten, nodes_limit, text_in, written_by, written_in, written_to}
use Rattle.write_text.specs.declared.Unwritten.{Unwritten}

-- a length is the text's, and no longer than the buffer
abbrev pub Measured : ℕ → List ℕ → Result ℕ Unwritten → Type 0
Measured room text w = (n : ℕ) → w ≡ Ok n → (n ≡ length text) × (n ≤ room)

-- by the length of the buffer
module _ (room : ℕ) where
  refused : (text : List ℕ) (why : Unwritten) → Measured room text (Err why)
  refused text why n e = let clash : ◌≡◌ {A = ℕ} 0 1 = cc in absurd (omega arith)

  by_measured : (first : Option ℕ) (m : Moment) (text : List ℕ) → Measured room text (written_by first m text room)
  by_measured (Some p) m text = refused text _
  by_measured None m text =
      let M = Measured room text in
      by_if M (not (is_moment m)) _ _ (λ e. refused text _)
      (λ e. by_if M (ltb room (length text)) _ _ (λ e. refused text _)
      (λ e n q. let same : length text ≡ n = cc in (sym same, omega (arith, ltb-false room (length text) e))))

  pub to_measured : (set : Settings) (t : List ℕ) (m : Moment) → Measured room (text_of t m) (written_to set t m room)
  unfolding written_to
  to_measured set t m =
      let text = text_of t m in
      by_if (Measured room text) (ltb (template_limit set) (length t)) _ _ (λ e. refused text _)
      (λ e. by_if (Measured room text) (not (well_formed t)) _ _ (λ e. refused text _) (λ e. by_measured (first_unwritten (nodes_of t)) m text))

  pub in_measured : (set : Settings) (c t : List ℕ) (m : Moment) → Measured room (text_in c t m) (written_in set c t m room)
  unfolding written_in
  in_measured set c t m =
      let text = text_in c t m in
      by_if (Measured room text) (ltb (nodes_limit set) (length c)) _ _ (λ e. refused text _) (λ e. by_measured (first_unwritten (nodes_in c)) m text)
