-- `base_chars::is_utf8` meets its contract: ASCII and sequences are passed until nothing is left. Assumes nothing.
use Rattle.std.proofs.Common.{sym, ◌∙◌, arith, rules, length-drop, drop}
use Rattle.base_chars.proofs.HighBits.{onward}
use Rattle.base_chars.proofs.Sequences.{sequence_within}
use Rattle.base_chars.proofs.WellFormed.{past_sequence_at, no_sequence_at, end_of_text}
use Rattle.base_chars.proofs.is_utf8.Goals as goal

-- the end of the text
pub returns-then-s-next : goal.returns-then-s-next
returns-then-s-next c =
    let s = c.args.s.now in
    let next = c.after_ascii-next.result in
    sym (end_of_text s next (search rules)) ∙ (onward c.loop-i.invariant.1 c.after_ascii-next.ensures).same

-- no sequence begins here
pub returns-in-None : goal.returns-in-None
returns-in-None c =
    let s = c.args.s.now in
    let next = c.after_ascii-next.result in
    sym (no_sequence_at s next (search rules) (sym c.in-None.ensures))
    ∙ (onward c.loop-i.invariant.1 c.after_ascii-next.ensures).same

-- a sequence lies within what is left
pub overflow_add-i : goal.overflow_add-i
overflow_add-i c =
    let s = c.args.s.now in
    let next = c.after_ascii-next.result in
    omega (arith, sequence_within (drop next s), length-drop next s, c.in-Some.ensures.1)

-- and is passed
pub loop-i-preserved : goal.loop-i-preserved
loop-i-preserved c =
    let s = c.args.s.now in
    let next = c.after_ascii-next.result in (
      omega (arith, sequence_within (drop next s), length-drop next s, c.in-Some.ensures.1),
      onward (onward c.loop-i.invariant.1 c.after_ascii-next.ensures)
          (record { forward = omega arith; same = past_sequence_at s next c.in-Some.n c.in-Some.ensures.1 }),
    )
