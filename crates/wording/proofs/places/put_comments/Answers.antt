-- An item is put, and those behind it go on from there.
use mathlib.Core.Path.{◌≡◌, sym, ◌∙◌}
use borrow.Author.Tests.{lt-ltb, le-ltb, leb-true, leb-false}
use Rattle.text.specs.Literals.{ascii}
use Rattle.text.proofs.Parts.{part_slice}
use Rattle.tree.specs.Parts.{spans_at, trivia_left}
use Rattle.wording.specs.Losses.{comments}
use Rattle.leaves.proofs.Spans.{items_read}
use Rattle.wording.proofs.Pieces.{◌onward◌, stays}
use Rattle.wording.proofs.places.put_comments.Goals as goal

pub loop-item-init : goal.loop-item-init
loop-item-init c =
    let start : trivia_left c.into_iter-item-iterator.result ≡ spans_at c.args.tree.now c.args.own.trivia c.args.own.trivia_count =
    rw c.into_iter-item-iterator.ensures.into_iter_gives c.new-item-items.ensures in
    (rw start (items_read c.args.tree.now c.args.own.trivia c.args.own.trivia_count).lie, λ after all. all)

pub loop-item-preserved-then-is_comment : goal.loop-item-preserved-then-is_comment
unfolding comments ascii
loop-item-preserved-then-is_comment c =
    let left = rw c.in-Some.ensures.steps at c.loop-item.invariant in
    let own = c.put.ensures onward simp part_slice at c.put_quoted.ensures in
    (left.0.1, λ after rest. left.1 after (rw (le-ltb _ _ (leb-true _ _ (sym c.is_comment.ensures ∙ c.if-is_comment.true))) (own onward rest)))

pub loop-item-preserved : goal.loop-item-preserved
unfolding comments
loop-item-preserved c =
    let left = rw c.in-Some.ensures.steps at c.loop-item.invariant in
    (left.0.1, λ after rest. left.1 after (rw (lt-ltb _ _ (leb-false _ _ (sym c.is_comment.ensures ∙ c.if-is_comment.false))) rest))

pub returns : goal.returns
unfolding comments
returns c =
    let start : trivia_left c.into_iter-item-iterator.result ≡ spans_at c.args.tree.now c.args.own.trivia c.args.own.trivia_count =
    rw c.into_iter-item-iterator.ensures.into_iter_gives c.new-item-items.ensures in
    let read = items_read c.args.tree.now c.args.own.trivia c.args.own.trivia_count in
    let left = rw (c.in-None.ensures.steps.0, start) at c.loop-item.invariant.1 in
    rw read.texts (left _ stays)
