-- Past the last text nothing is pushed.
use lib.ListN.{get_or-eq_default}
use mathlib.Core.List.{[]}
use mathlib.Core.Path.{refl}
use Rattle.options.specs.Casings.{cased}
use Rattle.printers.proofs.Pushing.{pushes_nothing}
use Rattle.printers.proofs.texts.push_cased.Goals as goal

pub returns-in_default : goal.returns-in_default
unfolding cased
returns-in_default g c = pushes_nothing (rw (get_or-eq_default c.args.texts.now [] (rw c.in_default.is at c.get.ensures.lookup.3)) refl)
