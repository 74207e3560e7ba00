-- The trivia are printed, the text is pushed, and the record ends behind it.
use mathlib.Core.Path.{refl}
use Rattle.text.proofs.Parts.{part_slice}
use Rattle.printing.specs.Running.{run}
use Rattle.printers.proofs.Going.{◌onward◌, runs_alike}
use Rattle.printers.proofs.leaf.format_own.Goals as goal

pub returns : goal.returns
unfolding run
returns c = runs_alike (c.shown_trivia.ensures.goes onward (rw part_slice at c.push_text.ensures.goes) onward c.move_to.ensures.goes) (λ x. refl)
