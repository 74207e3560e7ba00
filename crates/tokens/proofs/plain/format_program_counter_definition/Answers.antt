-- The star, the sign and the value, with spaces between, one behind the other.
use Rattle.tree.specs.Tree.{built}
use Rattle.events.specs.Trees.{events_in}
use Rattle.leaves.specs.Records.{field_trees, fields_end}
use Rattle.leaves.proofs.Classes.{char_leaf}
use Rattle.printers.proofs.Going.{◌onward◌}
use Rattle.tokens.proofs.plain.format_program_counter_definition.Goals as goal

pub returns : goal.returns
unfolding built field_trees fields_end events_in
returns c =
    c.format_leaf.ensures.leaf char_leaf onward c.push.ensures.goes onward c.format_leaf-2.ensures.leaf char_leaf
    onward c.push-2.ensures.goes onward c.format_expression.ensures
