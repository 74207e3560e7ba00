-- The label that was opened goes on from its own bytes; where they were refused nothing is behind.
use mathlib.Core.Path.{refl}
use Rattle.printing.specs.Running.{run}
use Rattle.events.specs.Trees.{events_in}
use Rattle.leaves.proofs.Records.{read_refused}
use Rattle.printers.proofs.Going.{◌onward◌, tree_stays, ends_alike}
use Rattle.printers.proofs.Opening.{closed_first, opened_own, opened_fits}
use Rattle.tokens.proofs.fronts.label_front.Goals as goal

pub returns-in_default : goal.returns-in_default
unfolding events_in
returns-in_default c = closed_first c.open.ensures c.in_default.is refl (λ why is. rw (read_refused _ _ _ _ why is).0 refl)

pub format_listed_label-requires : goal.format_listed_label-requires
format_listed_label-requires c = rw (tree_stays (opened_own c.open.ensures c.in-Some.is).3) (opened_fits c.open.ensures c.in-Some.is)

pub returns : goal.returns
unfolding run
returns c =
    let opened = opened_own c.open.ensures c.in-Some.is in
    ends_alike (opened.3 onward c.format_listed_label.ensures _ (rw (tree_stays opened.3) opened.1)) (λ x. refl) refl
