-- `replay::questions::put_values` meets its contract: each number fits 64 bits.
use Rattle.std.proofs.Common.{FitsSigned, rules, to_z-of_z, w64}
use Rattle.line_buffers.proofs.Puts.{put_then}
use Rattle.replay.proofs.questions.put_values.Goals as goal

-- three numbers
pub returns-in-Three : goal.returns-in-Three
returns-in-Three c =
    let a : FitsSigned w64 c.in-Three.a = search rules in
    let b : FitsSigned w64 c.in-Three.b = search rules in
    let d : FitsSigned w64 c.in-Three.c = search rules in
    let two = put_then _ _ (simp (to_z-of_z a) at c.put_decimal-first.ensures) (simp (to_z-of_z b) at c.put_after-second.ensures) in
    rw (c.in-Some.is, c.in-Three.is) (put_then _ _ two (simp (to_z-of_z d) at c.put_after.ensures))
