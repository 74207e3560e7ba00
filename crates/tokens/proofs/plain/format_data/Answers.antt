-- The values are skipped on the way to their size, and printed behind it; the walk goes on behind the size.
use mathlib.Core.Path.{refl}
use Rattle.tree.specs.Tree.{built}
use Rattle.tree.specs.Reading.{read}
use Rattle.printing.specs.Running.{run}
use Rattle.events.specs.Trees.{events_in}
use Rattle.leaves.specs.Records.{field_trees, fields_end}
use Rattle.leaves.proofs.Classes.{data_size_leaf}
use Rattle.printers.proofs.Going.{◌onward◌, there, ends_alike}
use Rattle.tokens.specs.Inner.{value_events}
use Rattle.tokens.proofs.plain.format_data.Goals as goal

pub returns : goal.returns
unfolding built field_trees fields_end events_in run
returns c =
    let values = ends_alike {others = λ page at. value_events page.context (read c.args.levels page.tree) c.args.printer.now.at} {behind = λ page at. at}
    (c.push.ensures.goes onward c.move_to.ensures.goes onward c.format_arguments.ensures onward c.move_to-2.ensures.goes) (λ x. refl) refl
    in
    there (c.skip.ensures onward c.format_leaf.ensures.leaf data_size_leaf onward values) refl refl
