-- The tag and the name, each with a space to come.
use Rattle.leaves.proofs.Classes.{word_leaf}
use Rattle.printers.proofs.Going.{◌onward◌}
use Rattle.tokens.proofs.fronts.test_front.Goals as goal

pub returns : goal.returns
returns c = c.format_leaf.ensures.leaf word_leaf onward c.spc_if_next.ensures.goes onward c.format_expression.ensures onward c.spc_if_next-2.ensures.goes
