-- The tag, a space and the name, one behind the other.
use Rattle.tree.specs.Tree.{built}
use Rattle.events.specs.Trees.{events_in}
use Rattle.leaves.specs.Records.{field_trees, fields_end}
use Rattle.leaves.proofs.Classes.{word_leaf}
use Rattle.printers.proofs.Going.{◌onward◌}
use Rattle.tokens.proofs.plain.format_file.Goals as goal

pub returns : goal.returns
unfolding built field_trees fields_end events_in
returns c = c.format_leaf.ensures.leaf word_leaf onward c.push.ensures.goes onward c.format_string.ensures
