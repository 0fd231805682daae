-- Patterns that read a word.
use Rattle.std.specs.Prelude.{◌≡◌, refl, List, [], ◌∷◌, ℕ, ◌+◌, ◌-◌, ◌%◌, eqb, pos, get_or, None, Some, Option}
use Rattle.base_notation.specs.Choice.{when◌then◌else◌}
use Rattle.base_refusals.specs.declared.Refusal.TheVariants.{Conflict, NoWord}
use Rattle.read_words.specs.Spelling.{word_at}
use Rattle.read_words.specs.declared.spelling.Word.{Word}
use Rattle.template_patterns.specs.declared.tables.WordList.{WordList}
use Rattle.template_patterns.specs.declared.tables.WordList.TheVariants.{MonthsFull, MonthsAbbrev, DaysFull, DaysAbbrev, AmPm, AmPmLong, AdBc, AdBcLong, RomanMonths}
use Rattle.template_nodes.specs.declared.Node.{Node}
use Rattle.read_fields.specs.Fields.{conflicts, get, put, read, refuse, at_place, clock}
use Rattle.read_fields.specs.Tasks.{odd_hour12, month, weekday, roman_month}
use Rattle.read_fields.specs.declared.Fields.{Fields}
use Rattle.read_fields.specs.declared.Place.{Place}
use Rattle.read_fields.specs.declared.Reading.{Reading}
use Rattle.read_fields.specs.declared.Task.{Task}

-- the word lists by number
abbrev pub list_of : ℕ → WordList
list_of k = get_or (MonthsFull ∷ MonthsAbbrev ∷ DaysFull ∷ DaysAbbrev ∷ AmPm ∷ AmPmLong ∷ AdBc ∷ AdBcLong ∷ RomanMonths ∷ []) k MonthsFull

-- the number of a word by its index in its list: months from 1, weekdays from 0, Roman months from 12 down, PM and BC 1
unfoldable pub meant : ℕ → ℕ → ℕ
meant rule k =
    when eqb rule month then k + 1
    else when eqb rule weekday then k
    else when eqb rule roman_month then 12 - k
    else k % 2

-- a weekday is kept one higher, Sunday 1: a second one is compared with that
abbrev pub kept_word : ℕ → ℕ → ℕ
kept_word rule n = when eqb rule weekday then n + 1 else n

abbrev pub noted_word : ℕ → Fields → Fields
noted_word rule f = when eqb rule odd_hour12 then put f clock (pos 12) else f

-- a word's number goes into its field, unless that was set to another value
abbrev pub word_stored : Node → Task → ℕ → ℕ → Fields → Place → Reading
word_stored n task z next f p =
    when conflicts (get f task.field) (pos z) then refuse (Conflict n.pattern) f p
    else read (noted_word task.rule (put f task.field (pos (kept_word task.rule z)))) (at_place p next)

unfoldable pub stored_word : Node → Task → Option Word → Fields → Place → Reading
stored_word n task None f p = refuse (NoWord n.pattern) f p
stored_word n task (Some r) f p = word_stored n task (meant task.rule r.index) (p.at + r.len) f p

abbrev pub read_word : List ℕ → Node → Task → Fields → Place → Reading
read_word s n task f p = stored_word n task (word_at (list_of task.operand) s p.at) f p

-- unfolds all that a pattern that reads a word is computed by, for worked examples
unfoldable pub word_computes : ℕ
unfolding meant stored_word word_at
word_computes = 0

-- May is month 5, PM is 1, and xii is December
pub worked : (meant month 4 ≡ 5) × (meant odd_hour12 3 ≡ 1) × (meant roman_month 0 ≡ 12)
unfolding word_computes
worked = (refl, refl, refl)
