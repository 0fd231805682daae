-- Patterns that read an offset: TZ, OF, TZH and TZM.
use Rattle.std.specs.Prelude.{◌≡◌, refl, Bool, not, ◌&&◌, ◌||◌, List, ℕ, ◌+◌, ◌-◌, ◌≤◌, eqb, ltb, ℤ, pos, negsuc, length, Err, Ok, Result}
use Prim.Native.Char.{code}
use Rattle.base_notation.specs.Choice.{when◌then◌else◌}
use Rattle.base_notation.specs.Text.{byte_at, utf8}
use Rattle.base_refusals.specs.declared.Refusal.TheVariants.{Conflict, ZoneLetter}
use Rattle.base_chars.specs.Class.{is_letter}
use Rattle.read_integers.specs.Number.{integer_computes, number_at}
use Rattle.read_integers.specs.declared.Number.{Number}
use Rattle.template_nodes.specs.declared.Node.{Node}
use Rattle.read_fields.specs.Fields.{conflicts, get, put, read, refuse, at_place, onward, is_zero, tzsign, tzh, tzm}
use Rattle.read_fields.specs.Tasks.{hours, no_letter}
use Rattle.read_fields.specs.declared.Fields.{Fields}
use Rattle.read_fields.specs.declared.Place.{Place}
use Rattle.read_fields.specs.declared.Reading.{Reading}
use Rattle.read_fields.specs.declared.Task.{Task}
use Rattle.base_refusals.specs.declared.Refusal.{Refusal}

-- a byte is a sign, or a space for plus
abbrev pub is_sign : ℕ → Bool
is_sign b = eqb b (code "+") || eqb b (code "-") || eqb b (code " ")

-- the sign of an offset: the one at the place; else a minus one byte back, which was skipped as a separator; else plus
unfoldable pub sign_of : List ℕ → Place → ℤ
sign_of s p =
    when is_sign (byte_at s p.at) then (when eqb (byte_at s p.at) (code "-") then negsuc 0 else pos 1)
    else when ltb 0 p.extra && (ltb 0 p.at && eqb (byte_at s (p.at - 1)) (code "-")) then negsuc 0
    else pos 1

-- the place after a sign
abbrev pub past_sign : List ℕ → ℕ → ℕ
past_sign s at = when is_sign (byte_at s at) then at + 1 else at

-- r is that place, within the input
pub record Signed (s : List ℕ) (at r : ℕ) : Type 0 where
  pub is : r ≡ past_sign s at
  pub within : r ≤ length s

-- a number of an offset goes into its field, unless that was set to another value
unfoldable pub stored_offset : Node → ℕ → Result Number Refusal → Fields → Place → Reading
stored_offset n field (Err why) f p = refuse why f p
stored_offset n field (Ok r) f p =
    when conflicts (get f field) r.value then refuse (Conflict n.pattern) f p else read (put f field r.value) (at_place p r.next)

-- the minutes after a colon, where both are read
unfoldable pub colon_minutes : List ℕ → Node → Bool → ℕ → Fields → Place → Reading
colon_minutes s n free rule f p =
    when not (eqb rule hours) && eqb (byte_at s p.at) (code ":")
    then stored_offset n tzm (number_at s (p.at + 1) 2 n.pattern free) f p
    else read f p

-- what follows the hours: the minutes, where the hours were read
unfoldable pub then_minutes : List ℕ → Node → Bool → ℕ → Reading → Reading
then_minutes s n free rule r = onward r.verdict r (colon_minutes s n free rule r.fields r.place)

-- a letter is refused at TZ before the sign is read
unfoldable pub read_offset : List ℕ → Node → Bool → Task → Fields → Place → Reading
read_offset s n free task f p =
    when eqb task.rule no_letter && is_letter (byte_at s p.at) then refuse (ZoneLetter n.pattern) f p
    else then_minutes s n free task.rule
    (stored_offset n tzh (number_at s (past_sign s p.at) 2 n.pattern free) (put f tzsign (sign_of s p)) p)

-- the sign is plus if none was read
abbrev pub with_sign : Fields → Fields
with_sign f = when is_zero (get f tzsign) then put f tzsign (pos 1) else f

-- minutes alone
abbrev pub read_offset_minutes : List ℕ → Node → Bool → Fields → Place → Reading
read_offset_minutes s n free f p = stored_offset n tzm (number_at s p.at 2 n.pattern free) (with_sign f) p

-- unfolds all that a pattern that reads an offset is computed by, for worked examples
unfoldable pub offset_computes : ℕ
unfolding sign_of stored_offset colon_minutes then_minutes read_offset integer_computes
offset_computes = 0

-- the sign at the place; a minus that was skipped one byte back, if a space or separator was skipped; else plus
pub signs
    : (sign_of (utf8 "-5") (record { at = 0; extra = 0; fx = 0 }) ≡ negsuc 0) × (sign_of (utf8 "-5") (record { at = 1; extra = 1; fx = 0 }) ≡ negsuc 0)
    × (sign_of (utf8 "-5") (record { at = 1; extra = 0; fx = 0 }) ≡ pos 1) × (sign_of (utf8 "+5") (record { at = 0; extra = 0; fx = 0 }) ≡ pos 1)
unfolding offset_computes
signs = (refl, refl, refl, refl)
