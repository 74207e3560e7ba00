-- A newline first is dropped; from any other item on all are printed.
use mathlib.Core.Path.{◌≡◌, sym, ◌∙◌}
use Rattle.tree.specs.Parts.{spans_at, trivia_left}
use Rattle.leaves.proofs.Spans.{items_read}
use Rattle.printers.proofs.Going.{tree_stays}
use Rattle.printers.proofs.Items.{no_span, one_span, first_span, dropped_span, all_leads}
use Rattle.printers.proofs.trivia.format_lead.Goals as goal
use Rattle.printers.proofs.trivia.format_lead.Goals.{else-first-via-then-first+else-only_newline, else-first-via-else-first}

pub loop-item-init : goal.loop-item-init
loop-item-init c =
    let tree = c.args.printer.now.tree.now in
    let start : trivia_left c.into_iter-item-iterator.result ≡ spans_at tree c.args.at c.args.count =
    rw c.into_iter-item-iterator.ensures.into_iter_gives c.new-item-items.ensures in
    (rw start (items_read tree c.args.at c.args.count).lie, λ after goes. goes)

pub only_newline-requires : goal.only_newline-requires
only_newline-requires c = (rw c.in-Some.ensures.steps at c.loop-item.invariant).0.0

pub format_trivium-requires : goal.format_trivium-requires
format_trivium-requires c = (rw c.in-Some.ensures.steps at c.loop-item.invariant).0.0

pub loop-item-preserved : goal.loop-item-preserved
loop-item-preserved c =
    let left = rw c.in-Some.ensures.steps at c.loop-item.invariant in
    let one = c.format_trivium.ensures in (
      rw (tree_stays one.goes) left.0.1,
      λ after rest. left.1 after
          (elim c.else-first.branch [
            | else-first-via-then-first+else-only_newline w ↦ rw w.if-first.true (first_span c.in-Some.item _ (sym w.only_newline.ensures ∙ w.if-only_newline.false) one rest)
            | else-first-via-else-first w ↦ rw w.if-first.false (one_span c.in-Some.item _ one rest)
          ]),
    )

pub loop-item-preserved-then-only_newline : goal.loop-item-preserved-then-only_newline
loop-item-preserved-then-only_newline c =
    let left = rw c.in-Some.ensures.steps at c.loop-item.invariant in (
      left.0.1,
      λ after rest. left.1 after
          (rw c.if-first.true (dropped_span c.in-Some.item _ (sym c.only_newline.ensures ∙ c.if-only_newline.true) (rw c.if-first.true at rest))),
    )

pub returns : goal.returns
returns c =
    let start : trivia_left c.into_iter-item-iterator.result ≡ spans_at c.args.printer.now.tree.now c.args.at c.args.count =
    rw c.into_iter-item-iterator.ensures.into_iter_gives c.new-item-items.ensures in
    let left = rw (c.in-None.ensures.steps.0, start) at c.loop-item.invariant.1 in
    all_leads c.args.at c.args.count (left _ (no_span c.loop-item.first))
