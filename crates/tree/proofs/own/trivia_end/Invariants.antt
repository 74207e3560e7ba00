-- The loop's invariant: what is left of the items ends where all of them do.
use mathlib.Core.Path.{◌≡◌}
use Prim.Native.Nat.{◌-◌}
use Rattle.tree.specs.Own.{trivia_end}
use Rattle.tree.proofs.own.trivia_end.Given as goal

abbrev pub invariant-loop : goal.invariant-loop
invariant-loop l = trivia_end l.tree l.at l.count ≡ trivia_end l.tree l.place (l.count - l.counter)
