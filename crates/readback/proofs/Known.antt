-- The patterns that the writer knows: what reading does at each of them, by its piece. Assumes nothing.
-- `task_for`, `mode_for`: a piece's task and its date mode. `list_for`, `index_for`: the list that its word is in, and the
-- word's index at a moment. `most_for`: the most bytes that its text has.
-- `excess`: how many bytes longer than the pattern with its prefix the text may be.
-- `known`: a pattern of the table that has a piece reads it so (`Reads`), by one test of the whole table.
use mathlib.Core.Path.{◌≡◌, refl}
use mathlib.Core.Bool.{Bool, true, ◌&&◌, ◌||◌, beq}
use mathlib.Core.List.{[], ◌∷◌}
use Prim.Native.Nat.{ℕ, ◌+◌, ◌-◌, ◌≤◌, ◌<◌}
use borrow.Author.Tests.{eqb-true, ne_eqb, ltb-true, leb-true}
use lib.Dec.{eqb, leb, ltb}
use lib.IntN.{nat_abs}
use lib.ListN.{length, get_or, replicate}
use Rattle.base_notation.proofs.Cases.{beq-true, both}
use Rattle.read_fields.proofs.Assigned.{same_task, same_task_lem}
use Rattle.base_notation.specs.Choice.{when◌then◌else◌}
use Rattle.base_notation.proofs.Table.{entry}
use Rattle.template_patterns.specs.Affixes.{affix_length}
use Rattle.template_patterns.specs.Patterns.{gregorian, iso_week, pattern_of, name_of}
use Rattle.read_fields.specs.Fields as F
use Rattle.read_fields.specs.Tasks.{task, nothing, number, word, plain, hour12, micros, iso_day, whole_year, odd_hour12, month, am_pm, am_pm_long, months_full, months_abbrev, task_of}
use Rattle.read_fields.specs.declared.Task.{Task}
use Rattle.read_words.specs.Words.{list_of}
use Rattle.template_patterns.specs.Words.{longest, words_of}
use Rattle.template_patterns.specs.declared.tables.WordList.{WordList}
use Rattle.write_pieces.specs.Pieces as P
use Rattle.write_pieces.specs.declared.Moment.{Moment}

abbrev pub task_for : ℕ → Task
task_for p =
    get_or (
    task nothing 0 0 0
    ∷ task number F.year whole_year 4
    ∷ task number F.mm plain 2
    ∷ task number F.dd plain 2
    ∷ task number F.ddd plain 3
    ∷ task number F.year whole_year 4
    ∷ task number F.ww plain 2
    ∷ task number F.d iso_day 1
    ∷ task number F.hh plain 2
    ∷ task number F.hh hour12 2
    ∷ task number F.mi plain 2
    ∷ task number F.ss plain 2
    ∷ task number F.ssss plain 5
    ∷ task number F.us micros 6
    ∷ task word F.pm odd_hour12 am_pm
    ∷ task word F.pm odd_hour12 am_pm_long
    ∷ task word F.mm month months_full
    ∷ task word F.mm month months_abbrev
    ∷ []
    ) p (task nothing 0 0 0)

abbrev pub mode_for : ℕ → ℕ
mode_for p =
    when ltb p P.month_name then get_or (0 ∷ gregorian ∷ gregorian ∷ gregorian ∷ gregorian ∷ iso_week ∷ iso_week ∷ iso_week ∷ []) p 0
    else gregorian

abbrev pub list_for : ℕ → WordList
list_for p = list_of (task_for p).operand

-- of a marker 0 is the morning's, 1 the afternoon's; of a name 0 is January's
abbrev pub index_for : ℕ → Moment → ℕ
index_for p m = when ltb p P.month_name then (when P.is_morning m then 0 else 1) else nat_abs m.month - 1

abbrev pub most_for : ℕ → ℕ
most_for p = when ltb p P.marker then P.width_of p else longest (words_of (list_for p))

-- the microsecond has four bytes more than US, and September two more than FMMonth
abbrev pub excess : ℕ → ℕ
excess p = when eqb P.micros p then 4 else when eqb P.month_name p then 2 else 0

-- the pattern number k reads the piece p
pub record Reads (k p : ℕ) : Type 0 where
  pub piece : p < 18
  pub does : task_of k ≡ task_for p
  pub mode : (pattern_of k).mode ≡ mode_for p
  pub digit : (pattern_of k).is_digit ≡ ltb p P.marker
  pub size : most_for p ≤ length (name_of k) + affix_length (P.prefix_of p) + excess p

-- the same as a test
abbrev reads : ℕ → ℕ → Bool
reads k p =
    ltb p 18
    && (same_task (task_of k) (task_for p)
    && (eqb (pattern_of k).mode (mode_for p)
    && (beq (pattern_of k).is_digit (ltb p P.marker) && leb (most_for p) (length (name_of k) + affix_length (P.prefix_of p) + excess p))))

abbrev reads_own : ℕ → ℕ → Bool
reads_own k x = let p = P.piece_of k in eqb p 0 || reads k p

pub known : (k : ℕ) → k < 112 → (P.piece_of k ≡ 0 → ⊥) → Reads k (P.piece_of k)
unfolding P.piece_of task_of
known k h n =
    let p = P.piece_of k in
    let e : reads k p ≡ true = rw (ne_eqb p 0 n) at (entry reads_own 0 (replicate 112 0) refl k h) in
    let pieces = both (ltb p 18) _ e in
    let tasks = both (same_task (task_of k) (task_for p)) _ pieces.1 in
    let modes = both (eqb (pattern_of k).mode (mode_for p)) _ tasks.1 in
    let digits = both (beq (pattern_of k).is_digit (ltb p P.marker)) _ modes.1 in
    record {
      piece = ltb-true _ _ pieces.0;
      does = same_task_lem _ _ tasks.0;
      mode = eqb-true _ _ modes.0;
      digit = beq-true _ _ digits.0;
      size = leb-true _ _ digits.1;
    }
