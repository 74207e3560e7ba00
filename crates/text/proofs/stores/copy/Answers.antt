-- The front of the bytes with one byte more is the next front.
use mathlib.Core.Path.{◌≡◌, sym, ◌∙◌}
use mathlib.Core.List.{[], ◌∷◌}
use Prim.Native.Nat.{suc, ◌+◌}
use native.Mathlib.Omega.{arith}
use lib.ListN.{length, get_or, take}
use lib.Seq.{length-take-le, take-suc}
use Rattle.text.proofs.Buffers.{sets_append}
use Rattle.text.proofs.stores.copy.Goals as goal

pub loop-i-preserved : goal.loop-i-preserved
loop-i-preserved c =
    let bytes = c.args.bytes.now in
    let i = c.loop-i.i in
    let front = take i bytes in
    let count : length front ≡ i = length-take-le i bytes (omega arith) in
    let next : i + 1 ≡ suc i = omega arith in
    rw (c.loop-i.invariant, next, take-suc bytes i 0 c.loop-i-test.true)
    (sym (sets_append c.args.buffer.now c.args.at front (get_or bytes i 0 ∷ []) ∙ rw count))
