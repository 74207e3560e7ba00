-- What goes on with the tokens that are left goes on with all of them, in the same context. Each call is of fewer levels, or of the same levels from a printer
-- of fields to one of records, or from a list to its items.
use mathlib.Core.Path.{◌≡◌}
use Prim.Native.Nat.{◌+◌, ◌*◌, ◌-◌}
use Rattle.std.specs.Prelude.{None}
use Rattle.printers.specs.declared.Printer.{Printer}
use Rattle.tokens.proofs.Cycle.{GoesRest}
use Rattle.tokens.proofs.walk.+token.Given as goal

abbrev pub decreases-format_tokens : goal.decreases-format_tokens
decreases-format_tokens l = 4 * l.levels

abbrev pub decreases-format_token : goal.decreases-format_token
decreases-format_token l = 4 * l.levels

abbrev pub decreases-format_listed_token : goal.decreases-format_listed_token
decreases-format_listed_token l = 4 * l.levels

abbrev pub decreases-format_inner : goal.decreases-format_inner
decreases-format_inner l = 4 * l.levels + 2

abbrev pub decreases-format_each_token : goal.decreases-format_each_token
decreases-format_each_token l = 4 * l.levels - 1

abbrev pub decreases-format_branches : goal.decreases-format_branches
decreases-format_branches l = 4 * l.levels + 1

abbrev pub decreases-format_block : goal.decreases-format_block
decreases-format_block l = 4 * l.levels

abbrev pub invariant-format_each_token-loop : goal.invariant-format_each_token-loop
invariant-format_each_token-loop l =
    (l.printer.context ≡ l.initial.printer.context)
    × ((after : Printer) → GoesRest l.printer after l.block l.levels l.before (l.count - l.counter)
    → GoesRest l.initial.printer after l.block l.levels None l.count)
