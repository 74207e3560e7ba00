-- The bytes that the window shows are stored as one run, and where it shows none nothing is.
use mathlib.Core.Path.{◌∙◌}
use Rattle.join.proofs.Windows.{puts_hidden, puts_shown, part_room}
use Rattle.join.proofs.sink.put_bytes.Goals as goal

pub store_bytes-requires : goal.store_bytes-requires
store_bytes-requires c =
    part_room c.args.text.now c.args.window c.args.at c.args.bytes.now c.max-from.ensures c.min-to.ensures c.if-from-to.true c.requires.0

pub returns-then-from-to : goal.returns-then-from-to
returns-then-from-to c =
    c.store_bytes.ensures ∙ puts_shown c.args.text.now c.args.window c.args.at c.args.bytes.now c.max-from.ensures c.min-to.ensures

pub returns-else-from-to : goal.returns-else-from-to
returns-else-from-to c =
    puts_hidden c.args.text.now c.args.window c.args.at c.args.bytes.now c.max-from.ensures c.min-to.ensures c.if-from-to.false
