-- An item is put, and those behind it go on from there.
use mathlib.Core.Path.{◌≡◌}
use Rattle.text.proofs.Parts.{part_slice}
use Rattle.tree.specs.Parts.{spans_at, trivia_left}
use Rattle.wording.specs.Records.{trivia}
use Rattle.leaves.proofs.Spans.{items_read}
use Rattle.wording.proofs.Pieces.{◌onward◌, stays}
use Rattle.wording.proofs.records.put_trivia.Goals as goal

pub loop-item-init : goal.loop-item-init
loop-item-init c =
    let start : trivia_left c.into_iter-item-iterator.result ≡ spans_at c.args.tree.now c.args.own.trivia c.args.own.trivia_count =
    rw c.into_iter-item-iterator.ensures.into_iter_gives c.new-item-items.ensures in
    (rw start (items_read c.args.tree.now c.args.own.trivia c.args.own.trivia_count).lie, λ after all. all)

pub loop-item-preserved : goal.loop-item-preserved
unfolding trivia
loop-item-preserved c =
    let left = rw c.in-Some.ensures.steps at c.loop-item.invariant in
    (left.0.1, λ after rest. left.1 after (simp part_slice at c.put_trivium.ensures onward rest))

pub returns : goal.returns
unfolding trivia
returns c =
    let start : trivia_left c.into_iter-item-iterator.result ≡ spans_at c.args.tree.now c.args.own.trivia c.args.own.trivia_count =
    rw c.into_iter-item-iterator.ensures.into_iter_gives c.new-item-items.ensures in
    let read = items_read c.args.tree.now c.args.own.trivia c.args.own.trivia_count in
    let left = rw (c.in-None.ensures.steps.0, start) at c.loop-item.invariant.1 in
    rw read.texts (left _ stays)
