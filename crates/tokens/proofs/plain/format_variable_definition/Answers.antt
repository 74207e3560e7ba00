-- The type, the name, the sign and the value, with spaces between, one behind the other.
use Rattle.tree.specs.Tree.{built}
use Rattle.events.specs.Trees.{events_in}
use Rattle.leaves.specs.Records.{field_trees, fields_end}
use Rattle.leaves.proofs.Classes.{word_leaf, char_leaf, variable_type_leaf}
use Rattle.printers.proofs.Going.{◌onward◌}
use Rattle.tokens.proofs.plain.format_variable_definition.Goals as goal

pub returns : goal.returns
unfolding built field_trees fields_end events_in
returns c =
    c.format_leaf.ensures.leaf variable_type_leaf onward c.push.ensures.goes onward c.format_leaf-2.ensures.leaf word_leaf onward c.push-2.ensures.goes
    onward c.format_leaf-3.ensures.leaf char_leaf onward c.push-3.ensures.goes onward c.format_expression.ensures
