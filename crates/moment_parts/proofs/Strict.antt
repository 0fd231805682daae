-- What the strict switch changes. Assumes nothing.
-- `strict_alone`: under it a moment whose month never has its day is refused, and nothing else changes, but that this
-- refusal comes before those of the time and of the offset.
use Rattle.std.specs.Prelude.{Err, Ok, Result, ⊤}
use mathlib.Core.Path.{◌≡◌, refl}
use mathlib.Core.Bool.{Bool, true, false, not, ◌||◌}
use mathlib.Core.List.{List}
use mathlib.Core.Logic.{inl, inr}
use Prim.Native.Nat.{ℕ}
use lib.Dec.{ltb}
use lib.IntN.{ℤ}
use lib.ListN.{length}
use Rattle.base_notation.specs.Choice.{when◌then◌else◌}
use Rattle.base_settings.specs.Limits.{input_limit, limits_compute, template_limit}
use Rattle.base_settings.specs.Strict.{with_strict}
use Rattle.base_settings.specs.declared.Settings.{Settings}
use Rattle.base_refusals.specs.declared.Refusal.{Refusal}
use Rattle.base_refusals.specs.declared.Refusal.TheVariants.{NotUtf8, TooLong}
use Rattle.base_chars.specs.Utf8.{well_formed}
use Rattle.read_fields.specs.declared.Fields.{Fields}
use Rattle.read_input.specs.Reader.{read_all}
use Rattle.template_nodes.specs.Template.{nodes_by}
use Rattle.template_nodes.specs.declared.Node.{Node}
use Rattle.moment_date.specs.Dates.{dated_of, date_in_range, no_such_day}
use Rattle.moment_date.specs.declared.Days.{Days}
use Rattle.moment_date.proofs.Never.{longest}
use Rattle.moment_time.specs.Time.{minute_of, second_of, clock_hour, micros_of, offset_in_range, time_in_range, checked_offset}
use Rattle.moment_parts.specs.Parts.{checked_moment, moment_of, parts_by, parts_of, parts_read, refused_by, then_date, then_fields, then_micros, then_moment}
use Rattle.moment_parts.specs.Strict.{StrictAlone, Strictly}
use Rattle.moment_parts.specs.declared.Parts.{Parts}
use Rattle.moment_parts.specs.declared.Unread.{Unread}

-- what is refused before the switch is asked stays
stays : (why : Refusal) → Strictly (refused_by why) (refused_by why)
stays why = inl refl

-- the checks: each test once, for both answers
checked : (f : Fields) (r : Days) (hour us : ℤ) → Strictly (checked_moment false f r hour us) (checked_moment true f r hour us)
unfolding checked_moment checked_offset
checked f r hour us =
    split (date_in_range r) (no_such_day r.set r.month r.day) (time_in_range hour (minute_of f) (second_of f) us) (offset_in_range f) refl refl refl refl
  where
    split : (d n t o : Bool) → date_in_range r ≡ d → no_such_day r.set r.month r.day ≡ n → time_in_range hour (minute_of f) (second_of f) us ≡ t
        → offset_in_range f ≡ o → Strictly (checked_moment false f r hour us) (checked_moment true f r hour us)
    split false n t o ed en et eo = rw ed (inl refl)
    split true true false o ed en et eo = rw (ed, en, et) (inr (refl, inl refl))
    split true true true false ed en et eo = rw (ed, en, et, eo) (inr (refl, inr refl))
    split true true true true ed en et eo = rw (ed, en, et, eo) (rw en refl)
    split true false false o ed en et eo = rw (ed, en, et) (inl refl)
    split true false true false ed en et eo = rw (ed, en, et, eo) (inl refl)
    split true false true true ed en et eo = rw (ed, en, et, eo) (rw en refl)

-- what comes before them is the same in both
then_moment_lem : (f : Fields) (r : Days) (hour : ℤ) (v : Result ℤ Refusal) → Strictly (then_moment false f r hour v) (then_moment true f r hour v)
then_moment_lem f r hour (Err why) = stays why
then_moment_lem f r hour (Ok us) = checked f r hour us

then_micros_lem : (f : Fields) (hour : ℤ) (a : Result Days Refusal) → Strictly (then_micros false f hour a) (then_micros true f hour a)
then_micros_lem f hour (Err why) = stays why
then_micros_lem f hour (Ok r) = then_moment_lem f r hour (micros_of f)

then_date_lem : (f : Fields) (v : Result ℤ Refusal) → Strictly (then_date false f v) (then_date true f v)
then_date_lem f (Err why) = stays why
then_date_lem f (Ok hour) = then_micros_lem f hour (dated_of f)

then_fields_lem : (v : Result ⊤ Refusal) (f : Fields) → Strictly (then_fields false v f) (then_fields true v f)
unfolding moment_of
then_fields_lem (Ok tt) f = then_date_lem f (clock_hour f)
then_fields_lem (Err why) f = stays why

-- a test that both make
same_test : (b : Bool) (x y x' y' : Result Parts Unread) → Strictly x x' → Strictly y y' → Strictly (when b then x else y) (when b then x' else y')
same_test true x y x' y' h k = h
same_test false x y x' y' h k = k

read : (ns : List Node) (t s : List ℕ) → Strictly (parts_read false ns t s) (parts_read true ns t s)
unfolding parts_read
read ns t s = let r = read_all t s ns in same_test (not (well_formed s)) _ _ _ _ (stays NotUtf8) (then_fields_lem r.verdict r.fields)

by_nodes : (set : Settings) (ns : List Node) (t s : List ℕ) → Strictly (parts_by (with_strict false set) ns t s) (parts_by (with_strict true set) ns t s)
unfolding parts_by limits_compute
by_nodes set ns t s = same_test (ltb (input_limit set) (length s)) _ _ _ _ (stays TooLong) (read ns t s)

by_template : (set : Settings) (t s : List ℕ) → Strictly (parts_of (with_strict false set) t s) (parts_of (with_strict true set) t s)
unfolding parts_of limits_compute
by_template set t s =
    same_test (ltb (template_limit set) (length t) || ltb (input_limit set) (length s)) _ _ _ _ (stays TooLong)
    (same_test (not (well_formed t)) _ _ _ _ (stays NotUtf8) (read (nodes_by set.accents t) t s))

pub strict_alone : StrictAlone
strict_alone = record { parts_by_nodes = by_nodes; parts = by_template; longest = longest }
