-- What is stored is the front of the bytes, and at the end all of them.
use Prim.Native.Nat.{ℕ, ◌+◌, ◌-◌}
use mathlib.Core.Path.{ap, ◌∙◌}
use mathlib.Core.List.{List}
use native.Mathlib.Omega.{arith}
use lib.ListN.{length}
use lib.Seq.{sets, slice}
use Rattle.join.proofs.Storing.{sets_on, sets_rest}
use Rattle.join.proofs.store.store_many.Goals as goal

pub loop-i-preserved : goal.loop-i-preserved
loop-i-preserved g c =
    let n = g.row.N in
    let text = c.args.text.now in
    let place = c.args.place in
    let bytes = c.args.bytes.now in
    let turn = c.loop-i in
    let i = turn.i in
    let more = sets_on text bytes place i i (i + n) (omega arith) (omega arith) (omega arith) (omega arith) in
    (omega arith, c.store_piece.ensures ∙ ap (λ (d : List ℕ). sets d (place + i) (slice i (i + n) bytes)) turn.invariant.1 ∙ more)

pub returns : goal.returns
returns g c =
    let n = g.row.N in
    let text = c.args.text.now in
    let place = c.args.place in
    let bytes = c.args.bytes.now in
    let turn = c.loop-i in
    let last = length bytes - n in
    let all = sets_rest text bytes place last turn.i (last + n) (omega arith) (omega arith) (omega arith) (omega arith) in
    c.store_piece-2.ensures ∙ ap (λ (d : List ℕ). sets d (place + last) (slice last (last + n) bytes)) turn.invariant.1 ∙ all
