-- Each answer is the one that the definition has after the same tests.
use mathlib.Core.Path.{sym, ◌∙◌}
use native.Mathlib.Omega.{arith}
use lib.ListN.{get_or}
use borrow.Author.Tests.{le-leb, lt-leb, lt-ltb, le-ltb, ne_eqb}
use Rattle.tree.specs.Own.{trivium_end}
use Rattle.tree.proofs.Coded.{code_is, other_code, no_code, has_code}
use Rattle.tree.proofs.own.trivium_end.Goals as goal

pub returns-then-tree-at : goal.returns-then-tree-at
unfolding trivium_end
returns-then-tree-at c = simp (le-leb _ _ c.if-tree-at.true)

pub returns-in_err-of_byte : goal.returns-in_err-of_byte
unfolding trivium_end
returns-in_err-of_byte c =
    let byte = get_or c.args.tree.now c.args.at 0 in
    let past = no_code byte (sym c.of_byte.ensures ∙ c.in_err-of_byte.was) in
    rw c.from_residual.ensures
    (simp (lt-leb _ _ c.if-tree-at.false, ne_eqb byte 1 (λ same. omega (arith, same, past)), lt-ltb 3 byte past))

pub returns-in-Newline : goal.returns-in-Newline
unfolding trivium_end
returns-in-Newline c =
    let byte = code_is _ _ (sym c.of_byte.ensures ∙ c.in_ok-of_byte.was) in
    simp (lt-leb _ _ c.if-tree-at.false, sym byte, c.in-Newline.is)

pub returns-in_default : goal.returns-in_default
unfolding trivium_end
returns-in_default c =
    let known = sym c.of_byte.ensures ∙ c.in_ok-of_byte.was in
    let other = rw (code_is _ _ known) at (other_code _ c.in_default.not-Newline) in
    simp (lt-leb _ _ c.if-tree-at.false, other, le-ltb _ _ (has_code _ _ known), c.sized_end.ensures)
