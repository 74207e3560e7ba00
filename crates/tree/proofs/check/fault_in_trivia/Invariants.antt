-- At the head of the loop the items that are left give the place that all of them give.
use Prim.Native.Nat.{◌-◌}
use Rattle.tree.proofs.Faults.{ItemsLeft}
use Rattle.tree.proofs.check.fault_in_trivia.Given as goal

abbrev pub invariant-loop : goal.invariant-loop
invariant-loop l = ItemsLeft l.tree l.at l.count l.fault l.place (l.count - l.counter) l.found
