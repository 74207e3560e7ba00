-- Past the last text nothing is pushed.
use lib.ListN.{get_or-eq_default}
use mathlib.Core.List.{[], map}
use Rattle.std.proofs.lemmas.List.{length-map}
use Rattle.printers.proofs.Pushing.{pushes_nothing}
use Rattle.printers.proofs.texts.push_entry.Goals as goal

pub returns-in_default : goal.returns-in_default
returns-in_default c =
    let past = rw c.in_default.is at c.get.ensures.lookup.3 in
    pushes_nothing (get_or-eq_default (map (λ text. text.now) c.args.texts.now) [] (rw length-map past))
