-- A leaf without items has no part; of others nothing is said.
use borrow.Author.Tests.{eqb-true, not-false}
use Rattle.tree.proofs.Planning.{leaf_parts}
use Rattle.tree.proofs.check.has_parts.Goals as goal

pub returns-in-Leaf : goal.returns-in-Leaf
returns-in-Leaf c = λ e. leaf_parts _ c.in-Leaf.is (eqb-true _ _ (not-false _ e))
