-- One item is printed, and those behind it go on.
use mathlib.Core.Bool.{false}
use mathlib.Core.Path.{◌≡◌}
use Rattle.tree.specs.Parts.{spans_at, trivia_left}
use Rattle.leaves.proofs.Spans.{items_read}
use Rattle.printers.proofs.Going.{tree_stays}
use Rattle.printers.proofs.Items.{no_span, one_span, all_spans}
use Rattle.printers.proofs.trivia.format_trivia.Goals as goal

pub loop-item-init : goal.loop-item-init
loop-item-init c =
    let tree = c.args.printer.now.tree.now in
    let start : trivia_left c.into_iter-item-iterator.result ≡ spans_at tree c.args.at c.args.count =
    rw c.into_iter-item-iterator.ensures.into_iter_gives c.new-item-items.ensures in
    (rw start (items_read tree c.args.at c.args.count).lie, λ after goes. goes)

pub format_trivium-requires : goal.format_trivium-requires
format_trivium-requires c = (rw c.in-Some.ensures.steps at c.loop-item.invariant).0.0

pub loop-item-preserved : goal.loop-item-preserved
loop-item-preserved c =
    let left = rw c.in-Some.ensures.steps at c.loop-item.invariant in
    let one = c.format_trivium.ensures in
    (rw (tree_stays one.goes) left.0.1, λ after rest. left.1 after (one_span c.in-Some.item _ one rest))

pub returns : goal.returns
returns c =
    let start : trivia_left c.into_iter-item-iterator.result ≡ spans_at c.args.printer.now.tree.now c.args.at c.args.count =
    rw c.into_iter-item-iterator.ensures.into_iter_gives c.new-item-items.ensures in
    let left = rw (c.in-None.ensures.steps.0, start) at c.loop-item.invariant.1 in
    all_spans c.args.at c.args.count (left _ (no_span false))
