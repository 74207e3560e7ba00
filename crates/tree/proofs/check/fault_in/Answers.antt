-- The same tests as the definition's, on the place that `fault_at` finds in the part.
use native.Mathlib.Omega.{arith}
use borrow.Author.Tests.{lt-ltb, le-ltb, lt-leb, le-leb}
use Rattle.text.proofs.Parts.{part_slice}
use Rattle.text.proofs.Accepted.{fault_part}
use Rattle.tree.proofs.Faults.{part_accepted}
use Rattle.tree.proofs.check.fault_in.Goals as goal

pub returns-then-fault-tree : goal.returns-then-fault-tree
returns-then-fault-tree c = simp (lt-ltb _ _ c.if-fault-tree.true)

pub overflow_add-found : goal.overflow_add-found
overflow_add-found c = omega (arith, c.fault_at.ensures, fault_part c.args.start c.args.end c.args.tree.now c.requires.1)

pub returns-then-found-end : goal.returns-then-found-end
returns-then-found-end c =
    let part = part_slice c.args.start c.args.end c.args.tree.now in
    let accepted = part_accepted c.args.start c.args.end c.args.tree.now c.requires.0 c.requires.1 in
    simp (le-ltb _ _ c.if-fault-tree.false, accepted, ← part, ← c.fault_at.ensures, lt-leb _ _ c.if-found-end.true)

pub returns : goal.returns
returns c =
    let part = part_slice c.args.start c.args.end c.args.tree.now in
    let accepted = part_accepted c.args.start c.args.end c.args.tree.now c.requires.0 c.requires.1 in
    simp (le-ltb _ _ c.if-fault-tree.false, accepted, ← part, ← c.fault_at.ensures, le-leb _ _ c.if-found-end.false)
