-- What goes on with the items that are left goes on with all of them.
use Prim.Native.Nat.{◌-◌}
use Rattle.printers.specs.declared.Printer.{Printer}
use Rattle.expressions.proofs.StringItems.{GoesStringItems}
use Rattle.expressions.proofs.strings.format_each_item.Given as goal

abbrev pub invariant-loop : goal.invariant-loop
invariant-loop l = (after : Printer) → GoesStringItems l.printer after l.levels (l.count - l.counter) → GoesStringItems l.initial.printer after l.levels l.count
