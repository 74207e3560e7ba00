-- The closing character is a leaf, printed where it is stored.
use mathlib.Core.Path.{refl}
use Rattle.printing.specs.Running.{run}
use Rattle.leaves.proofs.Classes.{char_leaf}
use Rattle.printers.proofs.Going.{aside, runs_alike}
use Rattle.expressions.proofs.operand.format_closing.Goals as goal

pub returns : goal.returns
unfolding run
returns c = runs_alike (aside c.move_to.ensures.goes (c.format_optional_leaf.ensures.leaf char_leaf) c.move_to-2.ensures.goes) (λ x. refl)
