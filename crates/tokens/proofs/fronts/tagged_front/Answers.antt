-- The tag and the expression are printed as those of an alignment, and a space behind them.
use Rattle.tree.specs.Tree.{built}
use Rattle.events.specs.Trees.{events_in}
use Rattle.leaves.specs.Records.{field_trees, fields_end}
use Rattle.printers.proofs.Going.{◌onward◌}
use Rattle.tokens.proofs.fronts.tagged_front.Goals as goal

pub returns : goal.returns
unfolding built field_trees fields_end events_in
returns c = c.format_tagged.ensures onward c.push.ensures.goes
