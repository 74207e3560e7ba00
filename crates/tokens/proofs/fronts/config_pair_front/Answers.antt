-- The key, a space, the sign and a space, one behind the other.
use Rattle.leaves.proofs.Classes.{word_leaf, char_leaf}
use Rattle.printers.proofs.Going.{◌onward◌}
use Rattle.tokens.proofs.fronts.config_pair_front.Goals as goal

pub returns : goal.returns
returns c = c.format_leaf.ensures.leaf word_leaf onward c.push.ensures.goes onward c.format_leaf-2.ensures.leaf char_leaf onward c.push-2.ensures.goes
