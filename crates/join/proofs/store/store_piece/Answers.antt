-- The part of the text is the part of the bytes.
use mathlib.Core.Path.{◌∙◌}
use Prim.Native.Nat.{◌+◌}
use native.Mathlib.Omega.{arith}
use lib.Seq.{slice, length-slice}
use Rattle.text.proofs.Parts.{part_slice}
use Rattle.join.proofs.Storing.{part_stored}
use Rattle.join.proofs.store.store_piece.Goals as goal

pub returns : goal.returns
returns g c =
    let place = c.args.place in
    let bytes = c.args.bytes.now in
    let from = c.args.at in
    let to = from + g.row.N in
    let long = length-slice from to bytes c.requires.0 in
    part_stored c.args.text.now (slice from to bytes) place _ (c.copy_from_slice.ensures.after ∙ part_slice from to bytes) (omega (arith, long)) (omega (arith, long))
