-- The tag with the name, the arguments between two characters, and a space to come.
use Rattle.leaves.proofs.Classes.{char_leaf}
use Rattle.printers.proofs.Going.{◌onward◌}
use Rattle.tokens.proofs.fronts.macro_definition_front.Goals as goal

pub returns : goal.returns
returns c =
    c.tag_and_name.ensures onward c.format_leaf.ensures.leaf char_leaf onward c.format_arguments.ensures
    onward c.format_leaf-2.ensures.leaf char_leaf onward c.spc_if_next.ensures.goes
