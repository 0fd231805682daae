-- Compiling a template into a lent buffer: the answer, and the buffer after it.
use Rattle.std.specs.Prelude.{◌≡◌, refl, true, not, List, [], ◌∷◌, ◌++◌, ℕ, ltb, ℤ, pos, negsuc, length, drop, replicate}
use Rattle.base_settings.specs.Accents.{with_accents}
use Rattle.base_settings.specs.Limits.{cards, limits_compute, pages, template_limit}
use Rattle.base_settings.specs.declared.Settings.{Settings}
use Rattle.base_notation.specs.Choice.{when◌then◌else◌}
use Rattle.base_notation.specs.Text.{encoded as encoded_char, utf8}
use Rattle.base_chars.specs.Utf8.{sequence, well_formed, well_formed_after}
use Rattle.template_nodes.specs.Examples.{nodes_compute}
use Rattle.template_nodes.specs.Bytes.{encoded}
use Rattle.template_nodes.specs.Template.{action, character, nodes_by}

-- the bytes of a template's nodes, in the caller's mode
abbrev pub compiled : Settings → List ℕ → List ℕ
compiled set t = encoded (nodes_by set.accents t)

-- how many they are; -1 for a template over its limit, -2 for one that is not UTF-8
unfoldable pub compiled_to : Settings → List ℕ → ℤ
compiled_to set t =
    when ltb (template_limit set) (length t) then negsuc 0
    else when not (well_formed t) then negsuc 1
    else pos (length (compiled set t))

-- the bytes in front and every byte after them as it was; refused: the buffer as it was
abbrev pub nodes_after : ℤ → List ℕ → List ℕ → List ℕ
nodes_after (pos n) nodes before = nodes ++ drop n before
nodes_after (negsuc n) nodes before = before

-- r is the answer, and `after` the buffer
pub record CompiledTo (set : Settings) (t before after : List ℕ) (r : ℤ) : Type 0 where
  pub is : r ≡ compiled_to set t
  pub buffer : after ≡ nodes_after r (compiled set t) before

-- DD is one node of six bytes, and an empty template has none; 0xff is no UTF-8
pub worked
    : (compiled pages (utf8 "DD") ≡ 0 ∷ 0 ∷ 2 ∷ action ∷ 9 ∷ 0 ∷ [])
    × (compiled_to pages (utf8 "DD") ≡ pos 6)
    × (compiled_to pages [] ≡ pos 0)
    × (compiled_to pages (0xff ∷ []) ≡ negsuc 1)
unfolding compiled_to limits_compute encoded nodes_compute well_formed_after sequence
worked = (refl, refl, refl, refl)

-- a with a mark is two nodes of one and two bytes; in the accents mode it is one of three bytes, which says so
pub marked
    : (compiled pages (utf8 "a" ++ encoded_char 0x301) ≡ 0 ∷ 0 ∷ 1 ∷ character ∷ 0 ∷ 0 ∷ 1 ∷ 0 ∷ 2 ∷ character ∷ 0 ∷ 0 ∷ [])
    × (compiled (with_accents true pages) (utf8 "a" ++ encoded_char 0x301) ≡ 0 ∷ 0 ∷ 3 ∷ character ∷ 0 ∷ 128 ∷ [])
unfolding encoded nodes_compute
marked = (refl, refl)

-- 65 bytes are too many for the flash cards, also where they are no UTF-8
pub limited
    : (compiled_to cards (replicate 64 0xff) ≡ negsuc 1)
    × (compiled_to cards (replicate 65 0xff) ≡ negsuc 0)
    × (compiled_to pages (replicate 65 0xff) ≡ negsuc 1)
unfolding compiled_to limits_compute well_formed_after sequence
limited = (refl, refl, refl)
