-- The tests of the definition in its order.
use mathlib.Core.Path.{◌∙◌}
use borrow.Author.Tests.{lt-ltb, le-ltb, eq-eqb, ne_eqb}
use Rattle.answers.proofs.Numbers.{judged_numbers}
use Rattle.tree.proofs.Numbers.{length_numbers_lem}
use Rattle.tree.proofs.check.check_length.Goals as goal

pub returns-then-end-eq0 : goal.returns-then-end-eq0
returns-then-end-eq0 c =
    let told = judged_numbers (length_numbers_lem _ _) (c.failed.ensures ∙ simp (eq-eqb _ _ c.if-end-eq0.true)) in
    record { answer = told.0; numbers = told.1 }

pub returns-then-limit-end : goal.returns-then-limit-end
returns-then-limit-end c =
    let told = judged_numbers (length_numbers_lem _ _) (c.failed-then-limit-end.ensures ∙ simp (ne_eqb _ _ c.if-end-eq0.false, lt-ltb _ _ c.if-limit-end.true)) in
    record { answer = told.0; numbers = told.1 }

pub returns : goal.returns
returns c =
    let told = judged_numbers (length_numbers_lem _ _) (simp (ne_eqb _ _ c.if-end-eq0.false, le-ltb _ _ c.if-limit-end.false)) in
    record { answer = told.0; numbers = told.1 }
