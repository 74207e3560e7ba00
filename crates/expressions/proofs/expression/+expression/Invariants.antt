-- What a printer goes on with is what its calls go on with one behind the other; each call is of fewer levels, or of the same levels
-- from a printer of fields to one of records.
use Prim.Native.Nat.{◌+◌, ◌-◌, ◌*◌}
use Rattle.printers.specs.declared.Printer.{Printer}
use Rattle.expressions.proofs.Cycle.{GoesArguments}
use Rattle.expressions.proofs.expression.+expression.Given as goal

abbrev pub decreases-format_value : goal.decreases-format_value
decreases-format_value l = 2 * l.levels + 1

abbrev pub decreases-format_parens : goal.decreases-format_parens
decreases-format_parens l = 2 * l.levels + 1

abbrev pub decreases-format_factor : goal.decreases-format_factor
decreases-format_factor l = 2 * l.levels + 1

abbrev pub decreases-format_expression_factor : goal.decreases-format_expression_factor
decreases-format_expression_factor l = 2 * l.levels

abbrev pub decreases-format_expression : goal.decreases-format_expression
decreases-format_expression l = 2 * l.levels

abbrev pub decreases-format_each_argument : goal.decreases-format_each_argument
decreases-format_each_argument l = 2 * l.levels + 1

abbrev pub decreases-format_call : goal.decreases-format_call
decreases-format_call l = 2 * l.levels + 1

abbrev pub decreases-format_binary_expression : goal.decreases-format_binary_expression
decreases-format_binary_expression l = 2 * l.levels + 1

abbrev pub decreases-format_arguments : goal.decreases-format_arguments
decreases-format_arguments l = 2 * l.levels

abbrev pub decreases-format_argument : goal.decreases-format_argument
decreases-format_argument l = 2 * l.levels

abbrev pub invariant-format_each_argument-loop : goal.invariant-format_each_argument-loop
invariant-format_each_argument-loop l =
    (after : Printer) → GoesArguments l.printer after l.levels l.of (l.count - l.counter) → GoesArguments l.initial.printer after l.levels l.of l.count
