-- The tag, the arguments, the source and the filename, with spaces between and one to come.
use Rattle.leaves.proofs.Classes.{word_leaf}
use Rattle.printers.proofs.Going.{◌onward◌}
use Rattle.tokens.proofs.fronts.import_front.Goals as goal

pub returns : goal.returns
returns c =
    c.format_leaf.ensures.leaf word_leaf onward c.push.ensures.goes onward c.format_arguments.ensures onward c.push-2.ensures.goes
    onward c.format_leaf-2.ensures.leaf word_leaf onward c.push-3.ensures.goes onward c.format_string.ensures onward c.spc_if_next.ensures.goes
