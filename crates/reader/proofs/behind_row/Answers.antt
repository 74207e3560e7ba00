-- The loop's invariant: the reader reads the same tree, and what is left of the tokens ends where all of them do.
use Prim.Native.Nat.{◌+◌, ◌-◌}
use denote.Ref.{Bor}
use Prim.Native.Nat.{ℕ}
use mathlib.Core.List.{List}
use mathlib.Core.Path.{◌≡◌, sym, ap, ◌∙◌}
use native.Mathlib.Omega.{arith}
use Rattle.std.proofs.lemmas.Result.{err_from_is_err_and}
use Rattle.reader.proofs.Rows.{row_none, row_next}
use Rattle.reader.proofs.behind_row.Goals as goal

pub loop-init : goal.loop-init
loop-init c =
    let all : c.args.count - 0 ≡ c.args.count = omega arith in
    (ap (λ (tree : Bor (List ℕ)). tree.now) (c.moved-reader.ensures.0 ∙ c.new.ensures.0), rw (c.moved-reader.ensures.1, all))

pub returns-in_err-behind : goal.returns-in_err-behind
returns-in_err-behind c =
    let p = err_from_is_err_and c.from_residual.result c.from_residual.ensures.1 in
    let token = rw c.loop.invariant.0 at c.behind.ensures.0 in
    rw (p.1, p.2)
    (sym (c.loop.invariant.1 ∙ row_next _ _ (c.args.count - c.loop.counter) (omega arith) token _ c.in_err-behind.was))

pub loop-preserved : goal.loop-preserved
loop-preserved c =
    let token = rw c.loop.invariant.0 at c.behind.ensures.0 in
    let left : c.args.count - c.loop.counter - 1 ≡ c.args.count - (c.loop.counter + 1) = omega arith in (
      ap (λ (tree : Bor (List ℕ)). tree.now) c.moved-reader-in-loop.ensures.0 ∙ c.loop.invariant.0,
      c.loop.invariant.1
          ∙ rw left at (row_next _ _ (c.args.count - c.loop.counter) (omega arith) token _ c.in_ok-behind.was)
          ∙ rw c.moved-reader-in-loop.ensures.1,
    )

pub returns : goal.returns
returns c = sym (c.loop.invariant.1 ∙ row_none _ _ _ (omega arith))
