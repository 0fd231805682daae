-- A part of a buffer, moved to its front.
-- `moved`: the part, copied to the front as a whole, is put there. Assumes nothing.
use mathlib.Core.Path.{◌≡◌, ◌∙◌, sym, ap}
use mathlib.Core.List.{List}
use Prim.Native.Nat.{ℕ, ◌+◌, ◌-◌, ◌≤◌, ◌<◌, min}
use native.Mathlib.Omega.{arith}
use lib.ListN.{length, take, drop, length-take, length-drop}
use lib.Seq.{sets, slice}
use Rattle.std.specs.List.{copy_within}
use Rattle.std.proofs.lemmas.List.{drop-take, take_min}
use Rattle.line_buffers.specs.Output.{Put}
use Rattle.line_buffers.proofs.Puts.{sets_paste}

module _ (buf : List ℕ) (from to : ℕ) where
  abbrev part : List ℕ
  part = slice from to buf

  part_size : length part ≡ min to (length buf) - from
  part_size = length-drop from (take to buf) ∙ ap (λ (n : ℕ). n - from) (length-take to buf)

  -- the part, which ends at `end`, copied to the front
  pub moved : (end : ℕ) → end ≡ min to (length buf) → from < end → Put buf 0 part (copy_within buf from end 0) (end - from)
  moved end e h =
      let cut : take end buf ≡ take to buf = rw e (take_min to buf) in
      let joined : from + (end - from) ≡ end = omega arith in
      let whole : take (end - from) (drop from buf) ≡ part =
      sym (drop-take from (end - from) buf) ∙ rw (joined, cut) in
      record {
        is = sets_paste buf (drop from buf) 0 (end - from) (omega (arith, length-drop from buf)) (omega arith) ∙ ap (sets buf 0) whole;
        next = omega (arith, part_size);
      }
