-- The answers to a text, line by line.
-- `next_line`: they are the answer to the first line and then those to the rest.
-- `long_answered`, `line_answered`: an answer and its newline are put.
-- `begun`, `more`: the answers put, and those to the rest, are the answers to the text (`Answering`): at first none is
-- put, then one more. `full`, `ended`: so it is where there is no room for one more, and where no line is left.
-- `past_end`, `to_end`: no line is left past the end of a text, or where none is in the part up to the end.
-- Assumes nothing.
use mathlib.Core.Path.{◌≡◌, ◌∙◌, refl, sym, ap}
use mathlib.Core.Bool.{Bool, true, false, not}
use mathlib.Core.List.{List, [], ◌∷◌, ◌++◌, append-nil, append_assoc}
use Prim.Native.Nat.{ℕ, suc, ◌+◌, ◌-◌, ◌<◌, ◌≤◌, max}
use native.Mathlib.Omega.{arith}
use native.Mathlib.Numerals.{add-one}
use lib.Dec.{eqb}
use lib.ListN.{length, take, drop, length-append, length-drop, drop_of_length-le}
use lib.Seq.{drop-drop, take_all}
use Rattle.base_notation.specs.Choice.{when◌then◌else◌}
use Rattle.base_strtol.specs.Runs.{leading}
use Rattle.line_answers.specs.Lines.{Answered, answer_line, too_long_answer}
use Rattle.line_answers.specs.declared.Mode.{Mode}
use Rattle.line_buffers.specs.Input.{before, Found}
use Rattle.line_buffers.specs.Output.{Put}
use Rattle.line_buffers.proofs.Puts.{put_then, put_size}
use Rattle.line_texts.specs.Texts.{newline, answer_to, answers_after, answers_to, longest, NoneLeft, AnswersLine, AnswersLines}
use Rattle.line_texts.specs.declared.Done.{Done}

-- the first line that ends in a text, after the bytes before the text
pub next_line : (mode : Mode) (long : Bool) (line text : List ℕ) → before newline text < length text
    → answers_after mode long line text
    ≡ answer_to mode long (line ++ take (before newline text) text) ++ answers_to mode false (drop (suc (before newline text)) text)
unfolding answers_after leading
next_line mode long line [] h = absurd (omega arith)
next_line mode long line (b ∷ text) h = split (eqb b newline) refl (λ line' h. next_line mode long line' text h)
  where
    split : (t : Bool) → eqb b newline ≡ t
        → ((line' : List ℕ) → before newline text < length text
        → answers_after mode long line' text ≡ answer_to mode long (line' ++ take (before newline text) text) ++ answers_to mode false (drop (suc (before newline text)) text))
        → answers_after mode long line (b ∷ text)
        ≡ answer_to mode long (line ++ take (before newline (b ∷ text)) (b ∷ text)) ++ answers_to mode false (drop (suc (before newline (b ∷ text))) (b ∷ text))
    split true e again = rw (e, append-nil)
    split false e again = rw e (again (line ++ b ∷ []) (omega (arith, rw e at h)) ∙ rw (append_assoc line (b ∷ []) (take (before newline text) text)))

-- an answer and its newline
with_newline : {l l₁ l₂ a : List ℕ} {at m r : ℕ} → Answered l at a l₁ m → Put l₁ m (newline ∷ []) l₂ r
    → Put l at (a ++ newline ∷ []) l₂ r × (length (a ++ newline ∷ []) ≤ longest)
with_newline {l} {at = at} a q = (put_then l at a.put q, rw length-append (omega (arith, a.short)))

-- the answer to a line whose beginning was left off, and to a whole one
module _ (mode : Mode) (line : List ℕ) {l l₁ l₂ : List ℕ} {at m r : ℕ} where
  pub long_answered : Answered l at too_long_answer l₁ m → Put l₁ m (newline ∷ []) l₂ r → AnswersLine mode true line l at l₂ r
  long_answered a q =
      let both = with_newline a q in
      record { put = both.0; short = both.1 }

  pub line_answered : Answered l at (answer_line mode line) l₁ m → Put l₁ m (newline ∷ []) l₂ r → AnswersLine mode false line l at l₂ r
  line_answered a q =
      let both = with_newline a q in
      record { put = both.0; short = both.1 }

-- lines are answered up to s.from, and the next one ends at `end`
pub record Answering (mode : Mode) (long : Bool) (text out₀ out : List ℕ) (s : Done) (end : ℕ) : Type 0 where
  pub done : List ℕ
  pub is : done ++ answers_to mode s.long (drop s.from text) ≡ answers_to mode long text
  pub put : Put out₀ 0 done out s.at
  pub whole : s.at ≡ length done
  pub within : s.at ≤ length out₀
  pub from : s.from ≤ length text
  pub first : s.from ≡ 0 → s.at ≡ 0
  pub ends : end ≡ s.from + before newline (drop s.from text)
  pub on : s.from ≤ end
  pub last : end ≤ length text

module _ (mode : Mode) (long : Bool) (text out₀ : List ℕ) where
  -- no line is answered yet
  pub begun : {end : ℕ} → Found text 0 newline end → Answering mode long text out₀ out₀ (record { from = 0; at = 0; long = long }) end
  begun f =
      record {
        done = [];
        is = refl;
        put = record { is = refl; next = omega arith };
        whole = refl;
        within = omega arith;
        from = omega arith;
        first = λ e. refl;
        ends = f.is;
        on = omega arith;
        last = omega (arith, f.within);
      }

  module _ {out : List ℕ} {s : Done} {end : ℕ} (a : Answering mode long text out₀ out s end) where
    pub size : length out ≡ length out₀
    size = put_size out₀ 0 a.put

    abbrev rest : List ℕ
    rest = drop s.from text

    -- the next line, and the text after it
    abbrev line : List ℕ
    line = take (end - s.from) rest

    next_is : end < length text → answers_to mode s.long rest ≡ answer_to mode s.long line ++ answers_to mode false (drop (end + 1) text)
    next_is h =
        let n_is : before newline rest ≡ end - s.from = omega (arith, a.ends) in
        let here : before newline rest < length rest = omega (arith, length-drop s.from text, a.ends) in
        let next_from : s.from + suc (before newline rest) ≡ end + 1 = omega (arith, a.ends) in
        let after : drop (suc (before newline rest)) rest ≡ drop (end + 1) text =
        drop-drop (suc (before newline rest)) s.from text ∙ ap (λ (k : ℕ). drop k text) next_from in
        rw (next_line mode s.long [] rest here, after, n_is)

    -- one line more
    pub more : end < length text → longest ≤ length out₀ - s.at → {after : List ℕ} {next end' : ℕ}
        → AnswersLine mode s.long line out s.at after next → Found text (end + 1) newline end'
        → Answering mode long text out₀ after (record { from = end + 1; at = next; long = false }) end'
    more h room l f =
        let size_is = size in
        let put_both = put_then out₀ 0 a.put l.put in
        record {
          done = a.done ++ answer_to mode s.long line;
          is = rw append_assoc (rw (next_is h) at a.is);
          put = put_both;
          whole = rw length-append (omega (arith, l.put.next, l.short, a.whole));
          within = omega (arith, l.put.next, l.short);
          from = omega arith;
          first = λ e. absurd (omega arith);
          ends = f.is;
          on = omega (arith, f.on);
          last = omega (arith, f.within);
        }

    -- there is no room for one more
    pub full : length out - s.at < longest → AnswersLines mode long text out₀ out s
    full h =
        let size_is = size in
        record {
          done = a.done;
          is = a.is;
          put = a.put;
          whole = a.whole;
          within = a.within;
          from = a.from;
          some = λ room e. absurd (omega (arith, a.first e));
        }

    -- no line is left
    first_line : length text ≤ end → s.from ≡ 0 → NoneLeft text
    first_line h e =
        let whole : before newline text ≡ before newline rest = rw e in
        omega (arith, a.ends, a.last)

    pub ended : length text ≤ end → AnswersLines mode long text out₀ out s
    ended h =
        record {
          done = a.done;
          is = a.is;
          put = a.put;
          whole = a.whole;
          within = a.within;
          from = a.from;
          some = λ room e. first_line h e;
        }

-- no line is past the end of a text; and a part that goes to the end is the rest of the text
module _ (text : List ℕ) (at : ℕ) where
  pub past_end : length text ≤ at → NoneLeft (drop at text)
  unfolding leading
  past_end h = rw (drop_of_length-le text h)

  pub to_end : NoneLeft (take (length text - at) (drop at text)) → NoneLeft (drop at text)
  to_end none = rw (take_all (length text - at) (drop at text) (omega (arith, length-drop at text))) at none
