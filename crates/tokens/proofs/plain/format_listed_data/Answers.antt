-- The text of the size, whose own bytes were read, is the size without its trivia; then a space and the values.
use mathlib.Core.Path.{refl, sym}
use Rattle.text.proofs.Parts.{part_slice}
use Rattle.tree.specs.declared.grammar.Class.TheVariants.{DataSize}
use Rattle.printing.specs.Running.{run}
use Rattle.events.specs.Trees.{events_in}
use Rattle.leaves.proofs.Classes.{data_size_leaf}
use Rattle.printers.proofs.Going.{◌onward◌, ends_alike}
use Rattle.tokens.proofs.PlainTokens.{text_read}
use Rattle.tokens.proofs.plain.format_listed_data.Goals as goal

pub returns : goal.returns
unfolding events_in run
returns c place is =
    let size = text_read _ DataSize _ _ _ data_size_leaf is in
    ends_alike (rw part_slice at c.push_text.ensures.goes onward c.push.ensures.goes onward c.format_arguments.ensures onward c.move_to.ensures.goes)
    (λ x. rw size.0 refl) (sym size.1)
