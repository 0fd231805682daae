-- The writer's answer, and the buffer after it.
use Rattle.std.specs.Prelude.{◌≡◌, refl, Bool, not, ◌&&◌, ◌||◌, List, [], ◌∷◌, ◌++◌, ℕ, ◌*◌, eqb, ltb, length, drop, Err, Ok, Result, None, Some, Option}
use Rattle.base_notation.specs.Choice.{when◌then◌else◌}
use Rattle.base_settings.specs.Limits.{template_limit}
use Rattle.base_settings.specs.declared.Settings.{Settings}
use Rattle.base_refusals.specs.Report.{no_pattern}
use Rattle.base_chars.specs.Utf8.{well_formed}
use Rattle.template_nodes.specs.Bytes.{nodes_in}
use Rattle.template_nodes.specs.Template.{action, nodes_of, pattern}
use Rattle.template_nodes.specs.declared.Node.{Node}
use Rattle.write_pieces.specs.Moment.{is_moment}
use Rattle.write_pieces.specs.Pieces.{none, piece_of, prefix_of}
use Rattle.write_text.specs.Text.{nodes_text, text_of}
use Rattle.write_pieces.specs.declared.Moment.{Moment}
use Rattle.write_text.specs.declared.Unwritten.TheVariants.{TooLong, NotUtf8, NotWritten, NoMoment, NoRoom}
use Rattle.write_text.specs.declared.Unwritten.{Unwritten}

-- a node that the writer writes: a literal, or a pattern that it knows with its piece's prefix, and no suffix
abbrev pub is_written : Node → Bool
is_written n =
    not (eqb n.kind action) || not (eqb (piece_of n.pattern) none) && eqb n.suffix (prefix_of (piece_of n.pattern))

-- a pattern as a refusal names it: any number past the table is no pattern
abbrev pub named : ℕ → ℕ
named p = when ltb p no_pattern then p else no_pattern

-- what is found where every node is written
abbrev pub all_written : Option ℕ
all_written = None

-- the first node that it does not write, by its pattern
unfoldable pub first_unwritten : List Node → Option ℕ
first_unwritten [] = all_written
first_unwritten (n ∷ ns) = when is_written n then first_unwritten ns else Some (named n.pattern)

-- FF1 after YYYY is not written; a number past the table is named as no pattern, also where FF1 follows
pub worked
    : (first_unwritten (pattern 0 4 54 0 ∷ []) ≡ all_written) × (first_unwritten (pattern 0 4 54 0 ∷ pattern 4 3 14 0 ∷ []) ≡ Some 14)
    × (first_unwritten (pattern 0 1 200 0 ∷ pattern 1 3 14 0 ∷ []) ≡ Some no_pattern)
unfolding first_unwritten piece_of
worked = (refl, refl, refl)

-- of names of months FMMonth and Mon are written; Month, FMMon, TMMonth, FMMonthTH and FMMM are not
pub names
    : (first_unwritten (pattern 2 5 37 1 ∷ pattern 7 3 38 0 ∷ []) ≡ all_written) × (first_unwritten (pattern 0 5 37 0 ∷ []) ≡ Some 37)
    × (first_unwritten (pattern 2 3 38 1 ∷ []) ≡ Some 38) × (first_unwritten (pattern 2 5 37 16 ∷ []) ≡ Some 37)
    × (first_unwritten (pattern 2 5 37 3 ∷ []) ≡ Some 37) × (first_unwritten (pattern 2 2 33 1 ∷ []) ≡ Some 33)
unfolding first_unwritten piece_of
names = (refl, refl, refl, refl, refl, refl)

-- the answer by the first pattern that is not written, for a text and a buffer of a length
abbrev pub written_by : Option ℕ → Moment → List ℕ → ℕ → Result ℕ Unwritten
written_by (Some p) m text room = Err (NotWritten p)
written_by None m text room =
    let needed = length text in
    when not (is_moment m) then Err NoMoment
    else when ltb room needed then Err (NoRoom needed)
    else Ok needed

-- by a template, for a caller with settings
unfoldable pub written_to : Settings → List ℕ → Moment → ℕ → Result ℕ Unwritten
written_to set t m room =
    when ltb (template_limit set) (length t) then Err TooLong
    else when not (well_formed t) then Err NotUtf8
    else written_by (first_unwritten (nodes_of t)) m (text_of t m) room

-- the text by the nodes that any bytes hold, whose literals are in t
abbrev pub text_in : List ℕ → List ℕ → Moment → List ℕ
text_in c t m = nodes_text t m (nodes_in c)

-- the bytes of the most nodes that a template within its limit has: six for each of its bytes
abbrev pub nodes_limit : Settings → ℕ
nodes_limit set = 6 * template_limit set

-- and the answer
unfoldable pub written_in : Settings → List ℕ → List ℕ → Moment → ℕ → Result ℕ Unwritten
written_in set c t m room =
    when ltb (nodes_limit set) (length c) then Err TooLong else written_by (first_unwritten (nodes_in c)) m (text_in c t m) room

-- the text, and after it every byte as it was; on refusal the buffer as it was
abbrev pub buffer_after : Result ℕ Unwritten → List ℕ → List ℕ → List ℕ
buffer_after (Ok n) text before = text ++ drop n before
buffer_after (Err why) text before = before

-- r is the answer, and after the buffer
pub record Wrote (set : Settings) (t : List ℕ) (m : Moment) (before after : List ℕ) (r : Result ℕ Unwritten) : Type 0 where
  pub is : r ≡ written_to set t m (length before)
  pub buffer : after ≡ buffer_after r (text_of t m) before

-- the same by the nodes that the bytes c hold
pub record WroteBy (set : Settings) (c t : List ℕ) (m : Moment) (before after : List ℕ) (r : Result ℕ Unwritten) : Type 0 where
  pub is : r ≡ written_in set c t m (length before)
  pub buffer : after ≡ buffer_after r (text_in c t m) before
