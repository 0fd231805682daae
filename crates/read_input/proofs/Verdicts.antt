-- A pattern by the verdict on what it read. Assumes nothing.
-- `stopped`, `passed`: what is read, by the definition, where the verdict is a refusal and where it is not.
-- `verdict_refused`, `verdict_read`: an outcome is the reading `r`, of which a refusal needs no fields.
-- `read_is`: and back: the outcome with its fields is `r`.
-- `whole_went`: an outcome is that of the whole, if the whole is the reading `r`.
use Rattle.std.specs.Prelude.{Err, Ok}
use mathlib.Core.Path.{◌≡◌, ◌∙◌, ap, subst, sym}
use mathlib.Core.Bool.{false}
use mathlib.Core.List.{List}
use Prim.Native.Nat.{ℕ}
use lib.IntN.{ℤ}
use Rattle.base_refusals.specs.declared.Refusal.{Refusal}
use Rattle.read_integers.specs.Suffix.{is_free}
use Rattle.template_patterns.specs.Patterns.{pattern_of}
use Rattle.template_nodes.specs.declared.Node.{Node}
use Rattle.read_fields.specs.Fields.{get, mode, no_fields, read, read_into, refuse, went}
use Rattle.read_literals.specs.Literals.{past_field}
use Rattle.read_input.specs.Reader.{Went, action_read, mixes, past_spaces, performed, with_mode}
use Rattle.read_fields.specs.Tasks.{task_of}
use Rattle.read_fields.specs.declared.Fields.{Fields}
use Rattle.read_fields.specs.declared.Place.{Place}
use Rattle.read_fields.specs.declared.Outcome.{Outcome}
use Rattle.read_fields.specs.declared.Reading.{Reading}
use Rattle.read_input.proofs.Payable.{never}

module _ (t s : List ℕ) (n next : Node) (f : Fields) (p : Place)
    (unmixed : mixes (pattern_of n.pattern).mode (get f mode) ≡ false)
    (r : Reading)
    (is : r ≡ performed s n (is_free t n next) (task_of n.pattern) (with_mode (pattern_of n.pattern).mode f) p)
  where
    pub stopped : (why : Refusal) → r.verdict ≡ Err why → refuse why no_fields p ≡ action_read t s n next f p
    unfolding action_read
    stopped why e = rw (unmixed, ← is, e)

    pub passed : r.verdict ≡ Ok tt → read r.fields (past_field s r.place) ≡ action_read t s n next f p
    unfolding action_read past_spaces
    passed e = rw (unmixed, ← is, e)

-- what holds of an outcome, by the verdict
module _ {r : Reading} {o : Outcome} {values : List ℤ} where
  pub verdict_refused : {why : Refusal} {p : Place} → o ≡ went (Err why) p → refuse why no_fields p ≡ r → Went r o values
  verdict_refused e is =
      record {
        verdict = ap (λ (x : Outcome). x.verdict) e ∙ ap (λ (x : Reading). x.verdict) is;
        place = ap (λ (x : Outcome). x.place) e ∙ ap (λ (x : Reading). x.place) is;
        fields = λ v. absurd (never (sym (ap (λ (x : Outcome). x.verdict) e) ∙ v));
      }

  pub verdict_read : read_into o values ≡ r → Went r o values
  verdict_read is =
      record {
        verdict = ap (λ (x : Reading). x.verdict) is;
        place = ap (λ (x : Reading). x.place) is;
        fields = λ v. ap (λ (x : Reading). x.fields) is;
      }

  -- and back
  pub read_is : Went r o values → o.verdict ≡ Ok tt → read_into o values ≡ r
  read_is w v = λ i. record { verdict = w.verdict i; fields = w.fields v i; place = w.place i }

-- what holds of an outcome for a reading holds for one that is the same
pub whole_went : {r whole : Reading} {o : Outcome} {values : List ℤ} → Went r o values → r ≡ whole → Went whole o values
whole_went {o = o} {values = values} went e = subst (λ (w : Reading). Went w o values) e went
