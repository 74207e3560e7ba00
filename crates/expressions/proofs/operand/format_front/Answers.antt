-- Without an opening character the expression is all; with one, the expression is skipped on the way to it and printed behind it.
use mathlib.Core.Path.{refl}
use Rattle.printing.specs.Running.{run}
use Rattle.events.specs.Trees.{events_in}
use Rattle.leaves.proofs.Classes.{char_leaf}
use Rattle.printers.proofs.Going.{◌onward◌, aside, ends_alike, runs_alike}
use Rattle.expressions.proofs.operand.format_front.Goals as goal

pub returns-then-not-lchar : goal.returns-then-not-lchar
unfolding events_in run
returns-then-not-lchar c = rw c.if-not-lchar.true (runs_alike c.format_expression.ensures (λ x. refl))

pub returns : goal.returns
unfolding run
returns c =
    ends_alike (c.skip.ensures onward c.format_leaf.ensures.leaf char_leaf onward aside c.move_to.ensures.goes c.format_expression-2.ensures c.move_to-2.ensures.goes)
    (λ x. rw c.if-not-lchar.false refl) (rw c.if-not-lchar.false refl)
