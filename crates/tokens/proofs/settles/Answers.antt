-- The tests of the definition in its order.
use mathlib.Core.Path.{refl}
use borrow.Author.Tests.{eq-eqb, ne_eqb}
use Rattle.tokens.specs.Settling.{settles}
use Rattle.tokens.proofs.settles.Goals as goal

pub returns-then-walked-tree : goal.returns-then-walked-tree
unfolding settles
returns-then-walked-tree c = rw (c.in-Ok.is, eq-eqb _ _ c.if-walked-tree.true) c.is_plain.ensures

pub returns-else-walked-tree : goal.returns-else-walked-tree
unfolding settles
returns-else-walked-tree c = rw (c.in-Ok.is, ne_eqb _ _ c.if-walked-tree.false) refl

pub returns-in-Err : goal.returns-in-Err
unfolding settles
returns-in-Err c = rw c.in-Err.is refl
