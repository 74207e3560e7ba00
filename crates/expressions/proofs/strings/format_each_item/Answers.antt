-- One item is printed, and those behind it go on; where none is left, or the walk has ended, nothing goes on.
use mathlib.Core.Path.{◌≡◌, sym, ◌∙◌}
use Prim.Native.Nat.{◌+◌, ◌-◌}
use native.Mathlib.Omega.{arith}
use Rattle.printers.proofs.Going.{has_ended}
use Rattle.expressions.proofs.StringItems.{no_item, one_item}
use Rattle.expressions.proofs.strings.format_each_item.Goals as goal

pub loop-init : goal.loop-init
loop-init c after rest =
    let all : c.args.count - 0 ≡ c.args.count = omega arith in
    rw all at rest

pub returns-then-is_some : goal.returns-then-is_some
returns-then-is_some c = c.loop.invariant _ (has_ended (sym c.is_some.ensures ∙ c.if-is_some.true))

pub loop-preserved : goal.loop-preserved
loop-preserved c after rest =
    let left : c.args.count - (c.loop.counter + 1) ≡ c.args.count - c.loop.counter - 1 = omega arith in
    c.loop.invariant after (one_item _ _ (omega arith) c.format_string_item.ensures (rw left at rest))

pub returns : goal.returns
returns c = c.loop.invariant _ (no_item _ _ (omega arith))
