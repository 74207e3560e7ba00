-- The loop's invariant: what is left of the items ends where all of them do.
use Prim.Native.Nat.{◌+◌, ◌-◌}
use mathlib.Core.Path.{◌≡◌, sym, ◌∙◌}
use native.Mathlib.Omega.{arith}
use Rattle.tree.proofs.Spans.{trivia_none, trivia_next}
use Rattle.tree.proofs.own.trivia_end.Goals as goal

pub returns-in_err-place : goal.returns-in_err-place
returns-in_err-place c =
    rw c.from_residual.ensures
    (sym (c.loop.invariant ∙ trivia_next _ _ (c.args.count - c.loop.counter) (omega arith) c.trivium_end.ensures _ c.in_err-place.was))

pub loop-preserved : goal.loop-preserved
loop-preserved c =
    let left : c.args.count - c.loop.counter - 1 ≡ c.args.count - (c.loop.counter + 1) = omega arith in
    c.loop.invariant
    ∙ rw left at (trivia_next _ _ (c.args.count - c.loop.counter) (omega arith) c.trivium_end.ensures _ c.in_ok-place.was)

pub returns : goal.returns
returns c = sym (c.loop.invariant ∙ trivia_none _ _ _ (omega arith))
