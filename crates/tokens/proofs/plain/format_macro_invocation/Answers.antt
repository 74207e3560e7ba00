-- The name, and the arguments between two characters, one behind the other.
use Rattle.tree.specs.Tree.{built}
use Rattle.events.specs.Trees.{events_in}
use Rattle.leaves.specs.Records.{field_trees, fields_end}
use Rattle.leaves.proofs.Classes.{word_leaf, char_leaf}
use Rattle.printers.proofs.Going.{◌onward◌}
use Rattle.tokens.proofs.plain.format_macro_invocation.Goals as goal

pub returns : goal.returns
unfolding built field_trees fields_end events_in
returns c =
    c.format_leaf.ensures.leaf word_leaf onward c.format_leaf-2.ensures.leaf char_leaf
    onward c.format_arguments.ensures onward c.format_leaf-3.ensures.leaf char_leaf
