-- The tag, a space to come, and the arguments between two characters.
use Rattle.tree.specs.Tree.{built}
use Rattle.events.specs.Views.{bit_at}
use Rattle.events.specs.Trees.{events_in}
use Rattle.leaves.specs.Records.{field_trees, fields_end}
use Rattle.leaves.proofs.Classes.{word_leaf, char_leaf}
use Rattle.printers.proofs.Going.{◌onward◌}
use Rattle.tokens.proofs.plain.format_trace.Goals as goal

pub returns : goal.returns
unfolding built field_trees fields_end events_in bit_at
returns c =
    rw (← c.stands.ensures, ← c.stands-2.ensures)
    (c.format_leaf.ensures.leaf word_leaf onward c.spc_if_next.ensures.goes onward c.format_optional_leaf.ensures.leaf char_leaf
    onward c.format_arguments.ensures onward c.format_optional_leaf-2.ensures.leaf char_leaf)
