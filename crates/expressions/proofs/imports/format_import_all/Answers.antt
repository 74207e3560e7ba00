-- Each step goes on from the one before.
use Rattle.tree.specs.Tree.{built}
use Rattle.events.specs.Views.{bit_at}
use Rattle.events.specs.Trees.{events_in}
use Rattle.leaves.specs.Records.{field_trees, fields_end}
use Rattle.leaves.proofs.Classes.{char_leaf}
use Rattle.printers.proofs.Going.{◌onward◌}
use Rattle.expressions.proofs.imports.format_import_all.Goals as goal

pub returns : goal.returns
unfolding built field_trees fields_end events_in bit_at
returns c =
    c.format_leaf.ensures.leaf char_leaf onward c.spc_if_next.ensures.goes onward rw c.stands.ensures at c.format_import_as.ensures
    onward c.clear_spc_if_next.ensures.goes
