-- The fields are printed in their order.
use Rattle.tree.specs.Tree.{built}
use Rattle.events.specs.Trees.{events_in}
use Rattle.leaves.specs.Records.{field_trees, fields_end}
use Rattle.leaves.proofs.Classes.{word_leaf, number_type_leaf}
use Rattle.printers.proofs.Going.{◌onward◌}
use Rattle.expressions.proofs.expression.format_number.Goals as goal

pub returns : goal.returns
unfolding built field_trees fields_end events_in
returns c = c.format_leaf.ensures.leaf number_type_leaf onward c.format_leaf-2.ensures.leaf word_leaf
