-- The accents mode by what comes before: a mark right after a letter counts with the letter, any other counts alone.
use Rattle.std.specs.Prelude.{◌≡◌, refl, Bool, true, false, not, ◌&&◌, ◌||◌, List, [], ◌∷◌, ◌++◌, map, ℕ, ◌+◌, eqb}
use Rattle.base_notation.specs.Choice.{when◌then◌else◌}
use Rattle.base_notation.specs.Text.{encoded, utf8}
use Rattle.base_accents.specs.Accents.{letter_at, mark_at}
use Rattle.template_nodes.specs.Examples.{nodes_compute}
use Rattle.template_nodes.specs.Template.{action, character, in_mode, literal, nodes_by, nodes_of, pattern}
use Rattle.template_nodes.specs.declared.Node.{Node}

-- a literal that begins with a letter, and one that is a mark
abbrev pub is_letter : List ℕ → Node → Bool
is_letter t n = not (eqb n.kind action) && letter_at t n.start

abbrev pub is_mark : List ℕ → Node → Bool
is_mark t n = not (eqb n.kind action) && mark_at t n.start

-- a node begins where another ends: no quote, backslash, prefix or suffix is between them
abbrev pub follows : Node → Node → Bool
follows m n = eqb n.start (m.start + m.len)

-- a letter with a mark more
abbrev pub longer : Node → ℕ → Node
longer m more =
    record { start = m.start; len = m.len + more; kind = m.kind; pattern = m.pattern; suffix = m.suffix; accents = m.accents }

-- the nodes after m, and m before them: each mark right after a letter, and after the marks that the letter has, is
-- joined to it
unfoldable pub joined_to : List ℕ → Node → List Node → List Node
joined_to t m [] = m ∷ []
joined_to t m (n ∷ ns) =
    when is_letter t m && (is_mark t n && follows m n) then joined_to t (longer m n.len) ns else m ∷ joined_to t n ns

abbrev pub joined : List ℕ → List Node → List Node
joined t [] = []
joined t (n ∷ ns) = joined_to t n ns

-- the nodes of the accents mode are those of the other with their marks joined; `by_what_is_before` in
-- proofs/Joined.antt is the theorem
abbrev pub ByWhatIsBefore : Type 0
ByWhatIsBefore = (t : List ℕ) → nodes_by true t ≡ map (in_mode true) (joined t (nodes_of t))

-- some mark counts alone
unfoldable pub has_lone_mark : List ℕ → List Node → Bool
has_lone_mark t [] = false
has_lone_mark t (n ∷ ns) = is_mark t n || has_lone_mark t ns

-- in the accents mode no mark of a template counts alone
abbrev pub none_alone : List ℕ → Bool
none_alone t = not (has_lone_mark t (nodes_by true t))

abbrev acute : List ℕ
acute = encoded 0x301

abbrev marked : Node → Node
marked n = in_mode true n

-- marks after a letter and after another mark, in quotes and outside; a mark after a digit, a quote and a pattern
pub worked
    : (nodes_by true (utf8 "a" ++ acute ++ acute ++ utf8 "\"b" ++ acute ++ utf8 "\"") ≡ marked (literal character 0 5) ∷ marked (literal character 6 3) ∷ [])
    × (nodes_by true (utf8 "5" ++ acute) ≡ marked (literal character 0 1) ∷ marked (literal character 1 2) ∷ [])
    × (nodes_by true (utf8 "\"a\"" ++ acute) ≡ marked (literal character 1 1) ∷ marked (literal character 3 2) ∷ [])
    × (nodes_by true (utf8 "DD" ++ acute) ≡ marked (pattern 0 2 9 0) ∷ marked (literal character 2 2) ∷ [])
unfolding nodes_compute
worked = (refl, refl, refl, refl)

-- after a backslash, a suffix and a prefix that is dropped a mark counts alone; a letter after them has its mark
pub alone
    : (none_alone (utf8 "\"a\\" ++ acute) ≡ false) × (none_alone (utf8 "DDth" ++ acute) ≡ false) × (none_alone (utf8 "aFM" ++ acute) ≡ false)
    × (none_alone (utf8 "\"\\a" ++ acute ++ utf8 "\"DDthu" ++ acute ++ utf8 "FMu" ++ acute) ≡ true)
unfolding has_lone_mark nodes_compute
alone = (refl, refl, refl, refl)
