-- What holds of the lane: it reads nodes as they are read one by one, and changes nothing for a pattern that it leaves.
use Rattle.std.specs.Prelude.{◌≡◌, Bool, true, false, not, List, ℕ, ◌≤◌, ◌<◌, eqb, ℤ, length, drop, get_or, Some, None, Option}
use Rattle.template_nodes.specs.Template.{action, end_node}
use Rattle.template_nodes.specs.declared.Node.{Node}
use Rattle.read_fields.specs.Fields.{conflicts, fields_of, get, mode, read}
use Rattle.read_fields.specs.Tasks.{exact, kind_of, same_kind, task_of}
use Rattle.read_fields.specs.declared.Fields.{Fields}
use Rattle.read_fields.specs.declared.Place.{Place}
use Rattle.read_fields.specs.declared.Reading.{Reading}
use Rattle.read_fields.specs.declared.Task.{Task}
use Rattle.read_numbers.specs.Numbers.{with_number}
use Rattle.read_literals.specs.Literals.{entered_by, place}
use Rattle.read_input.specs.Reader.{action_read, mixes, read_from, with_mode}
use Rattle.read_input.specs.Turn.{Turned}
use Rattle.read_input.specs.declared.lane.Passed.{Passed}

-- a number and its pattern's date mode go into the fields, unless either was set to another value
pub record NumberPut (new : ℕ) (task : Task) (z : ℤ) (n : ℕ) (before : List ℤ) (r : Bool) (after : List ℤ) : Type 0 where
  pub left : r ≡ false → after ≡ before
  pub unmixed : r ≡ true → mixes new (get (fields_of before) mode) ≡ false
  pub alone : r ≡ true → conflicts (get (fields_of before) task.field) z ≡ false
  pub put : r ≡ true → fields_of after ≡ with_number task z n (with_mode new (fields_of before))

-- a pattern that is taken is read as the definition says, up to a place; one that is left changes nothing
pub record Took (t s : List ℕ) (n next : Node) (before : List ℤ) (p : Place) (r : Option Place) (after : List ℤ) : Type 0 where
  pub left : r ≡ None → after ≡ before
  pub taken : (q : Place) → r ≡ Some q
      → read (fields_of after) q ≡ action_read t s n next (fields_of before) (entered_by s (not (same_kind (kind_of (task_of n.pattern).kind) exact)) p)

-- the next node and the place, where no skipped space is left
abbrev pub passed_at : ℕ → ℕ → Passed
passed_at next at = record { next = next; place = place at 0 false }

-- characters are read from node i on, whatever the template and the fields are
pub record CharsRead (s : List ℕ) (ns : List Node) (i : ℕ) (p : Place) (r : Passed) : Type 0 where
  pub on : i ≤ r.next
  pub turned : (t : List ℕ) (f : Fields) (whole : Reading) → Turned t s ns whole i f p → Turned t s ns whole r.next f r.place

-- node i is read, and perhaps some after it; only a pattern is left, which changes nothing
pub record NodeTook (t s : List ℕ) (ns : List Node) (i : ℕ) (before : List ℤ) (p : Place) (r : Option Passed) (after : List ℤ) : Type 0 where
  pub on : (q : Passed) → r ≡ Some q → i < q.next
  pub left : r ≡ None → ((get_or ns i end_node).kind ≡ action) × (after ≡ before)
  pub turned : (q : Passed) → r ≡ Some q
      → (whole : Reading) → Turned t s ns whole i (fields_of before) p → Turned t s ns whole q.next (fields_of after) q.place

-- nodes are read from node i on, up to a pattern or the end of the input or of the nodes
pub record LaneRead (t s : List ℕ) (ns : List Node) (i : ℕ) (p : Place) (before : List ℤ) (r : Passed) (after : List ℤ) : Type 0 where
  pub on : i ≤ r.next
  pub turned : Turned t s ns (read_from t s (drop i ns) (eqb i 0) (fields_of before) p) r.next (fields_of after) r.place
  pub stops : r.next < length ns → r.place.at < length s → (get_or ns r.next end_node).kind ≡ action
