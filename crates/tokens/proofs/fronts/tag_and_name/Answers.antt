-- The tag, a space and the name, one behind the other.
use Rattle.leaves.proofs.Classes.{word_leaf}
use Rattle.printers.proofs.Going.{◌onward◌}
use Rattle.tokens.proofs.fronts.tag_and_name.Goals as goal

pub returns : goal.returns
returns c = c.format_leaf.ensures.leaf word_leaf onward c.push.ensures.goes onward c.format_leaf-2.ensures.leaf word_leaf
