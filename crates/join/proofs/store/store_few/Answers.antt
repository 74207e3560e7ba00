-- Of at most three bytes none is left out.
use native.Mathlib.Omega.{arith}
use lib.ListN.{length-set}
use Rattle.join.proofs.Storing.{few_stored}
use Rattle.join.proofs.store.store_few.Goals as goal

pub bounds-text-place-2 : goal.bounds-text-place-2
bounds-text-place-2 c = simp length-set (omega arith)

pub bounds-text-place-3 : goal.bounds-text-place-3
bounds-text-place-3 c = simp length-set (omega arith)

pub returns : goal.returns
returns c =
    few_stored c.args.text.now c.args.bytes.now c.args.place c.requires.0 c.requires.1 c.requires.2
