-- Such a step needs no room: a walk that has ended takes it too.
use mathlib.Core.Path.{refl}
use Rattle.printing.specs.Running.{run}
use Rattle.printers.proofs.Exact.{steps_exactly}
use Rattle.printers.proofs.Printer.spc_if_next.Goals as goal

pub returns : goal.returns
unfolding run
returns c = steps_exactly refl refl refl (λ full. refl) refl
