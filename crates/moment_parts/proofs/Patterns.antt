-- A refusal names no pattern, or one of the template's. Assumes nothing.
-- `named_own`: so it is by any nodes, whatever the template and the input are.
-- `named_in_template`: so it is by a template, with its own nodes.
use Rattle.std.specs.Prelude.{Err, Ok, Option, Result, ⊤}
use mathlib.Core.Path.{refl}
use mathlib.Core.Bool.{Bool, not, ◌&&◌, ◌||◌}
use mathlib.Core.List.{List, [], ◌∷◌}
use mathlib.Core.Logic.{inl, inr}
use Prim.Native.Nat.{ℕ}
use lib.Dec.{ltb}
use lib.IntN.{ℤ}
use lib.ListN.{length}
use Rattle.base_notation.proofs.Cases.{by_if}
use Rattle.base_settings.specs.Limits.{template_limit, input_limit}
use Rattle.base_settings.specs.declared.Settings.{Settings}
use Rattle.base_refusals.specs.Report.{no_pattern, report_of}
use Rattle.base_chars.specs.Utf8.{well_formed}
use Rattle.read_fields.specs.declared.Fields.{Fields}
use Rattle.read_fields.proofs.Own.{VerdictNames}
use Rattle.read_input.specs.Reader.{read_all}
use Rattle.read_input.proofs.Own.{Each, read_own}
use Rattle.template_nodes.specs.Template.{nodes_by}
use Rattle.template_nodes.specs.declared.Node.{Node}
use Rattle.moment_date.specs.Dates.{dated_of, date_in_range, no_such_day}
use Rattle.moment_date.specs.declared.Days.{Days}
use Rattle.moment_date.proofs.Unnamed.{DatedNames, date_unnamed}
use Rattle.moment_sums.proofs.Unnamed.{ValueNames}
use Rattle.moment_time.specs.Time.{minute_of, second_of, clock_hour, micros_of, time_in_range, checked_offset}
use Rattle.moment_time.proofs.Unnamed.{ZonedNames, clock_unnamed, micros_unnamed, offset_unnamed}
use Rattle.moment_parts.specs.Parts.{with_offset, checked_moment, then_moment, then_micros, then_date, moment_of, then_fields, parts_read, parts_by, parts_of}
use Rattle.moment_parts.specs.Patterns.{PatternIn, NoneOrIn, NamesOwn}
use Rattle.moment_parts.specs.Report.{unread_report}
use Rattle.base_refusals.specs.declared.Refusal.{Refusal}

module _ (ns : List Node) where
  -- no pattern is named
  none : NoneOrIn ns no_pattern
  none = inl refl

  -- what follows the fields, each step on what the one before left
  module _ (strict : Bool) (f : Fields) where
    offset_own : (r : Days) (hour us : ℤ) (z : Result (Option ℤ) Refusal) → ZonedNames (NoneOrIn ns) z → NamesOwn ns (with_offset f r hour us z)
    unfolding unread_report
    offset_own r hour us (Err why) named = named
    offset_own r hour us (Ok offset) named = tt

    checked_own : (r : Days) (hour us : ℤ) → NamesOwn ns (checked_moment strict f r hour us)
    unfolding checked_moment unread_report report_of
    checked_own r hour us =
        by_if (NamesOwn ns) (not (date_in_range r)) _ _ (λ e. none)
        (λ e. by_if (NamesOwn ns) (strict && no_such_day r.set r.month r.day) _ _ (λ e. none)
        (λ e. by_if (NamesOwn ns) (not (time_in_range hour (minute_of f) (second_of f) us)) _ _ (λ e. none)
        (λ e. offset_own r hour us (checked_offset f) (offset_unnamed (NoneOrIn ns) none f))))

    then_moment_lem : (r : Days) (hour : ℤ) (v : Result ℤ Refusal) → ValueNames (NoneOrIn ns) v → NamesOwn ns (then_moment strict f r hour v)
    unfolding unread_report
    then_moment_lem r hour (Err why) named = named
    then_moment_lem r hour (Ok us) named = checked_own r hour us

    then_micros_lem : (hour : ℤ) (a : Result Days Refusal) → DatedNames (NoneOrIn ns) a → NamesOwn ns (then_micros strict f hour a)
    unfolding unread_report
    then_micros_lem hour (Err why) named = named
    then_micros_lem hour (Ok r) named = then_moment_lem r hour (micros_of f) (micros_unnamed (NoneOrIn ns) none f)

    then_date_lem : (v : Result ℤ Refusal) → ValueNames (NoneOrIn ns) v → NamesOwn ns (then_date strict f v)
    unfolding unread_report
    then_date_lem (Err why) named = named
    then_date_lem (Ok hour) named = then_micros_lem hour (dated_of f) (date_unnamed (NoneOrIn ns) none f)

    moment_own : NamesOwn ns (moment_of strict f)
    unfolding moment_of
    moment_own = then_date_lem (clock_hour f) (clock_unnamed (NoneOrIn ns) none f)

    then_fields_lem : (v : Result ⊤ Refusal) → VerdictNames (NoneOrIn ns) v → NamesOwn ns (then_fields strict v f)
    unfolding unread_report
    then_fields_lem (Ok tt) named = moment_own
    then_fields_lem (Err why) named = named

-- each pattern among the nodes is one of them
each_in : (P : ℕ → Type 0) (ns : List Node) → ((k : ℕ) → PatternIn ns k → P k) → Each P ns
each_in P [] own = tt
each_in P (n ∷ ns) own = (λ e. own n.pattern (inl (e, refl)), each_in P ns (λ k i. own k (inr i)))

-- the fields that nodes read, and what they make
fields_own : (strict : Bool) (ns : List Node) (t s : List ℕ) → NamesOwn ns (then_fields strict (read_all t s ns).verdict (read_all t s ns).fields)
fields_own strict ns t s =
    let r = read_all t s ns in
    then_fields_lem ns strict r.fields r.verdict (read_own (NoneOrIn ns) t s ns (each_in (NoneOrIn ns) ns (λ k i. inr i)))

-- the parts of an input within its limit
parts_own : (strict : Bool) (ns : List Node) (t s : List ℕ) → NamesOwn ns (parts_read strict ns t s)
unfolding parts_read unread_report report_of
parts_own strict ns t s = by_if (NamesOwn ns) (not (well_formed s)) _ _ (λ e. none ns) (λ e. fields_own strict ns t s)

-- for any nodes, and all templates and inputs, of any bytes and length
pub named_own : (set : Settings) (ns : List Node) (t s : List ℕ) → NamesOwn ns (parts_by set ns t s)
unfolding parts_by unread_report report_of
named_own set ns t s = by_if (NamesOwn ns) (ltb (input_limit set) (length s)) _ _ (λ e. none ns) (λ e. parts_own set.strict ns t s)

pub named_in_template : (set : Settings) (t s : List ℕ) → NamesOwn (nodes_by set.accents t) (parts_of set t s)
unfolding parts_of unread_report report_of
named_in_template set t s =
    let ns = nodes_by set.accents t in
    by_if (NamesOwn ns) (ltb (template_limit set) (length t) || ltb (input_limit set) (length s)) _ _ (λ e. none ns)
    (λ e. by_if (NamesOwn ns) (not (well_formed t)) _ _ (λ e. none ns) (λ e. parts_own set.strict ns t s))
