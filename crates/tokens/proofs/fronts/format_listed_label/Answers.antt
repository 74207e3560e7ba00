-- The text of the id, whose own bytes were read, is pushed with a colon behind it in one chunk, and the stored colon is skipped.
use mathlib.Core.Path.{refl}
use Rattle.text.proofs.Parts.{part_slice}
use Rattle.tree.specs.declared.grammar.Class.TheVariants.{Word}
use Rattle.printing.specs.Running.{run}
use Rattle.events.specs.Trees.{events_in}
use Rattle.leaves.proofs.Classes.{word_leaf}
use Rattle.printers.proofs.Going.{◌onward◌, ends_alike}
use Rattle.tokens.proofs.PlainTokens.{text_read}
use Rattle.tokens.proofs.fronts.format_listed_label.Goals as goal

pub returns : goal.returns
unfolding events_in run
returns c place is =
    let id = text_read _ Word _ c.args.levels _ word_leaf is in
    ends_alike (rw part_slice at c.push_type.ensures.goes onward c.move_to.ensures.goes onward c.skip.ensures) (λ x. rw (id.0, ← id.1) refl) (rw (← id.1) refl)
