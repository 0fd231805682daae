-- The cases of the writer's answer. Assumes nothing.
-- `too_long`, `not_utf8`: a template over its limit, or one that is not UTF-8. `by_nodes`: any other, by its nodes.
-- `many`: more nodes than a template has. `not_written`: a pattern that is not written.
-- `no_moment`: numbers that are no moment. `no_room`: a buffer shorter than the text.
-- `wrote`: the text is put, and its length is the answer.
use Rattle.std.specs.Prelude.{Err, None, Ok, Result, Some}
use mathlib.Core.Path.{◌≡◌, ◌∙◌, refl, ap}
use mathlib.Core.Bool.{true, false}
use mathlib.Core.List.{List}
use Prim.Native.Nat.{ℕ, ◌<◌, ◌≤◌}
use native.Mathlib.Nat.{zero-add}
use native.Mathlib.Omega.{arith}
use borrow.Author.Tests.{le-ltb, lt-ltb}
use lib.ListN.{length}
use lib.Seq.{sets, sets-eq}
use Rattle.write_text.specs.declared.Unwritten.TheVariants.{TooLong, NotUtf8, NotWritten, NoMoment, NoRoom}
use Rattle.base_settings.specs.Limits.{template_limit}
use Rattle.base_settings.specs.declared.Settings.{Settings}
use Rattle.base_chars.specs.Utf8.{well_formed}
use Rattle.template_nodes.specs.Bytes.{nodes_in}
use Rattle.template_nodes.specs.Template.{nodes_of}
use Rattle.write_pieces.specs.Moment.{is_moment}
use Rattle.write_text.specs.Text.{nodes_text, text_of}
use Rattle.write_text.specs.Writer.{Wrote, WroteBy, buffer_after, first_unwritten, nodes_limit, text_in, written_in, written_to}
use Rattle.write_pieces.specs.declared.Moment.{Moment}
use Rattle.write_text.specs.declared.Unwritten.{Unwritten}

-- by a template
module _ (set : Settings) (t : List ℕ) (m : Moment) (out : List ℕ) where
  pub too_long : template_limit set < length t → Wrote set t m out out (Err TooLong)
  unfolding written_to
  too_long h = record { is = rw (lt-ltb (template_limit set) (length t) h); buffer = refl }

  pub not_utf8 : length t ≤ template_limit set → well_formed t ≡ false → Wrote set t m out out (Err NotUtf8)
  unfolding written_to
  not_utf8 limit e = record { is = rw (le-ltb (template_limit set) (length t) limit, e); buffer = refl }

  -- by the bytes of the template's nodes
  pub by_nodes : length t ≤ template_limit set → well_formed t ≡ true
      → (c : List ℕ) → length c ≤ nodes_limit set → nodes_in c ≡ nodes_of t
      → {after : List ℕ} {r : (Result ℕ Unwritten)} → WroteBy set c t m out after r → Wrote set t m out after r
  unfolding written_to written_in text_of
  by_nodes limit utf8 c few own {after} {r} w =
      let text = ap (nodes_text t m) own in
      record {
        is = rw (le-ltb (template_limit set) (length t) limit, utf8, ← own) (rw (le-ltb (nodes_limit set) (length c) few) at w.is);
        buffer = w.buffer ∙ ap (λ (l : List ℕ). buffer_after r l out) text;
      }

-- by nodes
module _ (set : Settings) (c t : List ℕ) (m : Moment) (out : List ℕ) where
  pub many : nodes_limit set < length c → WroteBy set c t m out out (Err TooLong)
  unfolding written_in
  many h = record { is = rw (lt-ltb (nodes_limit set) (length c) h); buffer = refl }

  module _ (few : length c ≤ nodes_limit set) where
    pub not_written : (p : ℕ) → first_unwritten (nodes_in c) ≡ Some p → WroteBy set c t m out out (Err (NotWritten p))
    unfolding written_in
    not_written p e = record { is = rw (le-ltb (nodes_limit set) (length c) few, e); buffer = refl }

    module _ (none : first_unwritten (nodes_in c) ≡ None) where
      pub no_moment : is_moment m ≡ false → WroteBy set c t m out out (Err NoMoment)
      unfolding written_in
      no_moment e = record { is = rw (le-ltb (nodes_limit set) (length c) few, none, e); buffer = refl }

      module _ (moment : is_moment m ≡ true) (n : ℕ) (needed : n ≡ length (text_in c t m)) where
        pub no_room : length out < n → WroteBy set c t m out out (Err (NoRoom n))
        unfolding written_in
        no_room h =
            record { is = rw (le-ltb (nodes_limit set) (length c) few, none, moment, ← needed, lt-ltb (length out) n h); buffer = refl }

        pub wrote : (after : List ℕ) → n ≤ length out → after ≡ sets out 0 (text_in c t m) → WroteBy set c t m out after (Ok n)
        unfolding written_in
        wrote after h e =
            record {
              is = rw (le-ltb (nodes_limit set) (length c) few, none, moment, ← needed, le-ltb (length out) n h);
              buffer = e ∙ sets-eq (text_in c t m) out 0 (omega arith) ∙ rw (zero-add (length (text_in c t m)), needed);
            }
