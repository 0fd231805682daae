-- Reading an input by the nodes of a template (DCH_from_char of formatting.c).
use Rattle.std.specs.Prelude.{◌≡◌, Bool, true, false, not, ◌&&◌, List, [], ◌∷◌, ℕ, eqb, ltb, ℤ, pos, length, Err, Ok, Result, ⊤}
use Rattle.base_notation.specs.Choice.{when◌then◌else◌}
use Rattle.base_refusals.specs.declared.Refusal.TheVariants.{MixedDates}
use Rattle.read_integers.specs.Suffix.{is_free}
use Rattle.template_patterns.specs.Patterns.{pattern_of}
use Rattle.template_nodes.specs.Template.{action, end_node}
use Rattle.template_nodes.specs.declared.Node.{Node}
use Rattle.read_fields.specs.Fields.{fields_of, mode, no_fields, get, put, read, refuse, onward, conflicts}
use Rattle.read_numbers.specs.Numbers.{read_number, read_dropped}
use Rattle.read_fields.specs.Tasks.{exact, kind_of, same_kind, task_of}
use Rattle.read_words.specs.Words.{read_word}
use Rattle.read_offsets.specs.Offsets.{read_offset, read_offset_minutes}
use Rattle.read_literals.specs.Literals.{place, past_field, literal_passed, entered_by}
use Rattle.read_fields.specs.declared.Fields.{Fields}
use Rattle.read_fields.specs.declared.Kind.{Kind}
use Rattle.read_fields.specs.declared.Kind.TheVariants.{Nothing, Exact, Number, Word, Dropped, CommaYear, Offset, OffsetMinutes}
use Rattle.read_fields.specs.declared.Outcome.{Outcome}
use Rattle.read_fields.specs.declared.Place.{Place}
use Rattle.read_fields.specs.declared.Reading.{Reading}
use Rattle.read_fields.specs.declared.Task.{Task}
use Rattle.base_refusals.specs.declared.Refusal.{Refusal}

-- a pattern has a date mode, and another was set before
abbrev pub mixes : ℕ → ℤ → Bool
mixes new old = not (eqb new 0) && conflicts old (pos new)

abbrev pub with_mode : ℕ → Fields → Fields
with_mode new f = when eqb new 0 then f else put f mode (pos new)

-- what a pattern reads, by the kind of its task
abbrev pub by_kind : Kind → List ℕ → Node → Bool → Task → Fields → Place → Reading
by_kind Nothing s n free task f p = read f p
by_kind Exact s n free task f p = read f (place p.at p.extra true)
by_kind Number s n free task f p = read_number s n free task f p
by_kind Word s n free task f p = read_word s n task f p
by_kind Dropped s n free task f p = read_dropped s n free task f p
by_kind CommaYear s n free task f p = read_number s n free task f p
by_kind Offset s n free task f p = read_offset s n free task f p
by_kind OffsetMinutes s n free task f p = read_offset_minutes s n free f p

unfoldable pub performed : List ℕ → Node → Bool → Task → Fields → Place → Reading
performed s n free task f p = by_kind (kind_of task.kind) s n free task f p

unfoldable pub past_spaces : List ℕ → Reading → Reading
past_spaces s r = record { verdict = r.verdict; fields = r.fields; place = past_field s r.place }

-- a refusal gives no fields, and leaves the place as it was before the pattern
abbrev pub when_read : Result ⊤ Refusal → Reading → Place → Reading
when_read (Ok tt) r p = r
when_read (Err why) r p = refuse why no_fields p

-- a pattern: its date mode is tested first
unfoldable pub action_read : List ℕ → List ℕ → Node → Node → Fields → Place → Reading
action_read t s n next f p =
    let new = (pattern_of n.pattern).mode in
    let r = performed s n (is_free t n next) (task_of n.pattern) (with_mode new f) p in
    when mixes new (get f mode) then refuse (MixedDates n.pattern) no_fields p
    else when_read r.verdict (past_spaces s r) p

-- reading as r says, into an array that then holds the values: those of a refusal are left open
pub record Went (r : Reading) (o : Outcome) (values : List ℤ) : Type 0 where
  pub verdict : o.verdict ≡ r.verdict
  pub place : o.place ≡ r.place
  pub fields : o.verdict ≡ (Ok tt) → fields_of values ≡ r.fields

-- spaces are skipped before a pattern but FX, and before the first node
abbrev pub skips : Node → Bool → Bool
skips n first = when eqb n.kind action then not (same_kind (kind_of (task_of n.pattern).kind) exact) else first

unfoldable pub entered : List ℕ → Node → Bool → Place → Place
entered s n first p = entered_by s (skips n first) p

-- one node
unfoldable pub node_read : List ℕ → List ℕ → Node → Node → Bool → Fields → Place → Reading
node_read t s n next first f p =
    let q = entered s n first p in
    when eqb n.kind action then action_read t s n next f q else read f (literal_passed s n q)

-- the first of the nodes, END if there is none
abbrev pub head_of : List Node → Node
head_of [] = end_node
head_of (n ∷ ns) = n

-- nodes one after another, until the input or the template ends or a node is refused
unfoldable pub read_from : List ℕ → List ℕ → List Node → Bool → Fields → Place → Reading
read_from t s [] first f p = read f p
read_from t s (n ∷ ns) first f p =
    let r = node_read t s n (head_of ns) first f p in
    when ltb p.at (length s) then onward r.verdict r (read_from t s ns false r.fields r.place) else read f p

-- the whole input
unfoldable pub read_all : List ℕ → List ℕ → List Node → Reading
read_all t s ns = read_from t s ns true no_fields (place 0 0 false)
