-- Full templates: UTF-8 within the limit, with only patterns that the writer knows, none with a prefix or suffix but
-- for FM on the full name of a month (a dropped prefix does not count). Of these they have one date group, one time
-- group and US, each once; order and literals are free.
use Rattle.std.specs.Prelude.{◌≡◌, refl, Bool, true, false, ◌&&◌, List, [], ◌∷◌, ◌++◌, ℕ, suc, eqb, leb, length, replicate}
use Rattle.std.specs.Option.{is_none}
use Prim.Native.Char.{code}
use Rattle.base_notation.specs.Choice.{when◌then◌else◌}
use Rattle.base_notation.specs.Text.{utf8}
use Rattle.base_chars.specs.Utf8.{sequence, well_formed, well_formed_after}
use Rattle.base_settings.specs.Limits.{cards, limits_compute, pages, template_limit}
use Rattle.base_settings.specs.declared.Settings.{Settings}
use Rattle.template_patterns.specs.Search.{count_from}
use Rattle.template_nodes.specs.Examples.{nodes_compute}
use Rattle.template_nodes.specs.Template.{action, nodes_of}
use Rattle.template_nodes.specs.declared.Node.{Node}
use Rattle.write_pieces.specs.Pieces.{year, month, day, year_day, week_year, week, weekday, hour24, hour12, minute, second, day_second, micros, marker, dotted_marker, month_name, short_month, piece_of}
use Rattle.write_text.specs.Writer.{first_unwritten}

-- the pieces of a template's patterns, in order
unfoldable pub pieces : List Node → List ℕ
pieces [] = []
pieces (n ∷ ns) = when eqb n.kind action then piece_of n.pattern ∷ pieces ns else pieces ns

-- the date groups and the time groups; the month is its number or its name, full or short
abbrev pub date_groups : List (List ℕ)
date_groups =
    (year ∷ month ∷ day ∷ [])
    ∷ (year ∷ month_name ∷ day ∷ [])
    ∷ (year ∷ short_month ∷ day ∷ [])
    ∷ (year ∷ year_day ∷ [])
    ∷ (week_year ∷ week ∷ weekday ∷ [])
    ∷ []

abbrev pub time_groups : List (List ℕ)
time_groups =
    (hour24 ∷ minute ∷ second ∷ [])
    ∷ (hour12 ∷ minute ∷ second ∷ marker ∷ [])
    ∷ (hour12 ∷ minute ∷ second ∷ dotted_marker ∷ [])
    ∷ (day_second ∷ [])
    ∷ []

-- how often a number is in a list
unfoldable pub times : ℕ → List ℕ → ℕ
times p [] = 0
times p (q ∷ qs) = when eqb p q then suc (times p qs) else times p qs

-- two lists of pieces have each piece as often
abbrev pub same_from : List ℕ → List ℕ → List ℕ → Bool
same_from [] ps qs = true
same_from (p ∷ rest) ps qs = eqb (times p ps) (times p qs) && same_from rest ps qs

abbrev pub same : List ℕ → List ℕ → Bool
same ps qs = same_from (count_from 0 18) ps qs

-- one of the lists of pieces, with what else is asked for
abbrev pub any_of : List (List ℕ) → (List ℕ → Bool) → Bool
any_of [] test = false
any_of (g ∷ gs) test = when test g then true else any_of gs test

-- a date group, a time group and microseconds
unfoldable pub are_full : List ℕ → Bool
are_full ps = any_of date_groups (λ date. any_of time_groups (λ time. same ps (date ++ time ++ micros ∷ [])))

-- a full template, for a caller with settings
unfoldable pub is_full : Settings → List ℕ → Bool
is_full set t = leb (length t) (template_limit set) && (well_formed t && (is_none (first_unwritten (nodes_of t)) && are_full (pieces (nodes_of t))))

-- an ISO date and time is full; without its microseconds it is not; a dropped prefix does not count
pub worked
    : (is_full pages (utf8 "YYYY-MM-DD\"T\"HH24:MI:SS.US") ≡ true) × (is_full pages (utf8 "YYYY-MM-DD HH24:MI:SS") ≡ false)
    × (is_full pages (utf8 "US SSSSS \"ngày IW\" FM,IW ID IYYY") ≡ true) × (is_full pages (utf8 "FMYYYY-DDD SSSSS US") ≡ false)
unfolding is_full limits_compute are_full times pieces first_unwritten piece_of nodes_compute well_formed_after sequence
worked = (refl, refl, refl, refl)

-- so is one with the name of the month, full with FM or short; not with both, nor with a name and MM
pub names
    : (is_full pages (utf8 "DD FMMonth YYYY SSSSS US") ≡ true) × (is_full pages (utf8 "DDmonYYYY SSSSSUS") ≡ true)
    × (is_full pages (utf8 "DD Month YYYY SSSSS US") ≡ false) × (is_full pages (utf8 "DD Mon FMMONTH YYYY SSSSS US") ≡ false)
    × (is_full pages (utf8 "DD Mon MM YYYY SSSSS US") ≡ false)
unfolding is_full limits_compute are_full times pieces first_unwritten piece_of nodes_compute well_formed_after sequence
names = (refl, refl, refl, refl, refl)

-- the limit is the caller's own: 64 bytes are full for both callers, 65 for the exercise pages alone
abbrev dashes : ℕ → List ℕ
dashes n = replicate n (code "-") ++ utf8 "YYYYDDDSSSSSUS"

pub limited
    : (is_full pages (dashes 50) ≡ true) × (is_full cards (dashes 50) ≡ true)
    × (is_full pages (dashes 51) ≡ true) × (is_full cards (dashes 51) ≡ false)
unfolding is_full limits_compute are_full times pieces first_unwritten piece_of nodes_compute well_formed_after sequence
limited = (refl, refl, refl, refl)
