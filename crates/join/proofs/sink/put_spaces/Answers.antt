-- The spaces that the window shows are stored as one run, and where it shows none nothing is.
use Prim.Native.Nat.{ℕ}
use mathlib.Core.Path.{◌∙◌}
use lib.ListN.{length-replicate}
use Rattle.text.specs.Ink.{spaces}
use Rattle.join.specs.Sinks.{puts}
use Rattle.join.proofs.Windows.{puts_hidden, spaces_shown}
use Rattle.join.proofs.sink.put_spaces.Goals as goal

pub returns-then-count-eq0 : goal.returns-then-count-eq0
unfolding puts
returns-then-count-eq0 c = rw c.if-count-eq0.true

pub returns-then-from-to : goal.returns-then-from-to
returns-then-from-to c =
    c.store_spaces.ensures ∙ spaces_shown c.args.text.now c.args.window c.args.at c.args.count c.max-from.ensures c.min-to.ensures c.if-from-to.true

pub returns-else-from-to : goal.returns-else-from-to
returns-else-from-to c =
    let count = c.args.count in
    puts_hidden c.args.text.now c.args.window c.args.at (spaces count) c.max-from.ensures (rw (length-replicate {A = ℕ} count 32) c.min-to.ensures) c.if-from-to.false
