-- An `If` has the number that the definition tests.
use Rattle.tree.proofs.own.else_fits.Goals as goal

pub returns-in-If : goal.returns-in-If
returns-in-If c = rw c.in-If.is
