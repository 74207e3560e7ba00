-- Where it does not stand nothing is printed.
use Rattle.events.specs.Trees.{events_in}
use Rattle.printers.proofs.Going.{stays}
use Rattle.printers.proofs.leaf.format_optional_leaf.Goals as goal

pub returns-else-stands : goal.returns-else-stands
unfolding events_in
returns-else-stands c = rw c.if-stands.false (record { own = stays; leaf = λ leaves. stays })
