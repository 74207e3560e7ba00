-- The items that are left lie in the tree, and what goes on with them goes on with all; newlines are dropped as long as only such were met.
use mathlib.Core.Bool.{true}
use Rattle.tree.specs.Parts.{trivia_left}
use Rattle.leaves.proofs.Spans.{Lie}
use Rattle.printers.specs.declared.Printer.{Printer}
use Rattle.printers.proofs.Items.{GoesSpans}
use Rattle.printers.proofs.trivia.format_lead.Given as goal

abbrev pub invariant-loop-item : goal.invariant-loop-item
invariant-loop-item l =
    let spans = trivia_left l.item-iterator in
    Lie l.printer.tree.now spans
    × ((after : Printer) → GoesSpans l.first l.printer after spans → GoesSpans true l.initial.printer after (trivia_left l.initial.item-iterator))
