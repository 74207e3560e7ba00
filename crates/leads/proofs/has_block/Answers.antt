-- The two kinds, and all others.
use mathlib.Core.Path.{refl}
use Rattle.tree.specs.Tree.{built}
use Rattle.tree.proofs.KindNumbers.{other_number}
use Rattle.leads.proofs.has_block.Goals as goal

pub returns-in-Import : goal.returns-in-Import
unfolding built
returns-in-Import c = rw c.in-Import.is c.stands.ensures

pub returns-in-Label : goal.returns-in-Label
unfolding built
returns-in-Label c = rw c.in-Label.is c.stands-in-Label.ensures

pub returns-in_default : goal.returns-in_default
returns-in_default c = rw (other_number 11 refl c.in_default.not-Import, other_number 14 refl c.in_default.not-Label)
