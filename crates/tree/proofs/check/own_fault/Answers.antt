-- A byte that was found stays the first; else first the trivia texts are looked at, then the record's own text.
use mathlib.Core.Path.{sym}
use Rattle.tree.proofs.Faults.{fault_stays, own_texts}
use Rattle.tree.proofs.check.own_fault.Goals as goal

pub returns-then-fault-tree : goal.returns-then-fault-tree
returns-then-fault-tree c = sym (fault_stays _ _ _ c.if-fault-tree.true)

pub returns : goal.returns
returns c = own_texts _ c.args.own _ _ _ c.fault_in_trivia-first.ensures c.fault_in.ensures
