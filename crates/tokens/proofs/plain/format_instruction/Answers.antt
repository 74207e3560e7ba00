-- The instruction that was opened goes on from its mnemonic; where that was refused nothing is behind.
use mathlib.Core.Path.{refl}
use Rattle.tree.specs.Tree.{built}
use Rattle.printing.specs.Running.{run}
use Rattle.events.specs.Views.{bit_at}
use Rattle.events.specs.Trees.{events_in}
use Rattle.leaves.specs.Records.{field_trees, fields_end}
use Rattle.leaves.proofs.Records.{read_refused}
use Rattle.printers.proofs.Going.{◌onward◌, tree_stays, ends_alike}
use Rattle.printers.proofs.Opening.{closed_first, opened_own, opened_fits}
use Rattle.tokens.proofs.plain.format_instruction.Goals as goal

pub returns-in_default : goal.returns-in_default
unfolding built field_trees fields_end events_in bit_at
returns-in_default c = closed_first c.open.ensures c.in_default.is refl (λ why is. rw (read_refused _ _ _ _ why is).0 refl)

pub format_listed_instruction-requires : goal.format_listed_instruction-requires
format_listed_instruction-requires c = rw (tree_stays (opened_own c.open.ensures c.in-Some.is).3) (opened_fits c.open.ensures c.in-Some.is)

pub returns : goal.returns
unfolding built field_trees fields_end events_in bit_at run
returns c =
    let opened = opened_own c.open.ensures c.in-Some.is in
    ends_alike (opened.3 onward c.format_listed_instruction.ensures _ (rw (tree_stays opened.3) opened.1)) (λ x. refl) refl
