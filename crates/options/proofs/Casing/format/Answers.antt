-- The loop's invariant: with the bytes from the index on cased as well, the text is the cased one.
use Prim.Native.Nat.{◌≤◌, ◌<◌}
use mathlib.Core.Path.{refl, sym, ◌∙◌}
use native.Mathlib.Omega.{arith}
use lib.ListN.{length}
use Rattle.options.specs.Casings.{cased}
use Rattle.options.proofs.Cased.{cased_from, cased_next, cased_all}
use Rattle.options.proofs.Casing.format.Goals as goal

pub loop-byte-init : goal.loop-byte-init
unfolding cased_from cased
loop-byte-init c = refl

pub loop-byte-preserved : goal.loop-byte-preserved
loop-byte-preserved c =
    let turn = c.loop-byte in
    let inside : turn.byte-index < length turn.text = omega arith in
    rw c.format_byte.ensures (cased_next c.args.self turn.text turn.byte-index inside ∙ turn.invariant)

pub returns : goal.returns
returns c =
    let turn = c.loop-byte in
    let past : length turn.text ≤ turn.byte-index = omega arith in
    sym (cased_all c.args.self turn.text turn.byte-index past) ∙ turn.invariant
