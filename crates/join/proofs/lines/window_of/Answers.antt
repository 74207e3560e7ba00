-- The window is that of the definition, by the test, and ends with the text.
use borrow.Author.Tests.{le-leb, lt-leb}
use native.Mathlib.Omega.{arith}
use Rattle.join.proofs.lines.window_of.Goals as goal

pub returns-then-base-room : goal.returns-then-base-room
returns-then-base-room c = record { answer = simp (le-leb _ _ c.if-base-room.true); within = omega arith }

pub returns : goal.returns
returns c = record { answer = simp (lt-leb _ _ c.if-base-room.false); within = omega arith }
