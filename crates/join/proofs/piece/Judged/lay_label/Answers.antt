-- The test and the alignment of the definition, with the padding that the call gives.
use borrow.Author.Tests.{lt-ltb, le-ltb}
use Rattle.join.proofs.piece.Judged.lay_label.Goals as goal

pub returns-then-label-column : goal.returns-then-label-column
returns-then-label-column c = simp (lt-ltb _ _ c.if-label-column.true)

pub returns-in-Left : goal.returns-in-Left
returns-in-Left c = simp (le-ltb _ _ c.if-label-column.false, c.saturating_sub-pad.ensures, c.in-Left.is)

pub returns-in-Right : goal.returns-in-Right
returns-in-Right c = simp (le-ltb _ _ c.if-label-column.false, c.saturating_sub-pad.ensures, c.in-Right.is)
