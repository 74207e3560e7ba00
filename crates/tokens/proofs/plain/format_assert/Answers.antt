-- The tag and the value, a space to come, and the message.
use mathlib.Core.Path.{refl}
use Rattle.tree.specs.Tree.{built}
use Rattle.printing.specs.Running.{run}
use Rattle.events.specs.Views.{bit_at}
use Rattle.events.specs.Trees.{events_in}
use Rattle.leaves.specs.Records.{field_trees, fields_end}
use Rattle.printers.proofs.Going.{◌onward◌, runs_alike}
use Rattle.tokens.proofs.plain.format_assert.Goals as goal

pub returns : goal.returns
unfolding built field_trees fields_end events_in bit_at run
returns c = rw (← c.stands.ensures) (runs_alike (c.format_tagged.ensures onward c.spc_if_next.ensures.goes onward c.format_string.ensures) (λ x. refl))
