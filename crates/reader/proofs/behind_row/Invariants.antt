-- The loop's invariant: the reader reads the same tree, and what is left of the tokens ends where all of them do.
use mathlib.Core.Path.{◌≡◌}
use Prim.Native.Nat.{◌-◌}
use Rattle.reader.specs.Tokens.{behind_row}
use Rattle.reader.proofs.behind_row.Given as goal

abbrev pub invariant-loop : goal.invariant-loop
invariant-loop l = (l.reader.tree.now ≡ l.tree) × (behind_row l.tree l.at l.count ≡ behind_row l.tree l.reader.at (l.count - l.counter))
