-- Each step goes on from the one before.
use Rattle.leaves.proofs.Classes.{char_leaf}
use Rattle.printers.proofs.Going.{◌onward◌}
use Rattle.expressions.proofs.expression.format_tags.Goals as goal

pub returns : goal.returns
returns c = c.skip.ensures onward c.format_optional_leaf.ensures.leaf char_leaf onward c.format_optional_leaf-2.ensures.leaf char_leaf
