-- The tag, the encoding and the text, each behind a space to come.
use Rattle.tree.specs.Tree.{built}
use Rattle.tree.specs.Reading.{read}
use Rattle.events.specs.Views.{bit_at}
use Rattle.events.specs.Trees.{events_in}
use Rattle.leaves.specs.Records.{field_trees, fields_end}
use Rattle.leaves.proofs.Classes.{word_leaf, text_encoding_leaf}
use Rattle.printers.proofs.Going.{◌onward◌}
use Rattle.tokens.proofs.plain.format_text.Goals as goal

pub returns : goal.returns
unfolding built field_trees fields_end events_in bit_at read
returns c =
    rw (← c.stands.ensures)
    (c.format_leaf.ensures.leaf word_leaf onward c.spc_if_next.ensures.goes onward c.format_optional_leaf.ensures.leaf text_encoding_leaf
    onward c.spc_if_next-2.ensures.goes onward c.format_expression.ensures)
