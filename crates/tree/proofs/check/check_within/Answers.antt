-- A tree of a wrong length is refused for that; else the place behind the file's record and the byte that reading found are judged.
use mathlib.Core.Path.{sym, ◌∙◌}
use Rattle.std.proofs.lemmas.Result.{err_from_is_err_and}
use Rattle.answers.proofs.Numbers.{judged_numbers}
use Rattle.tree.proofs.Numbers.{tree_numbers_lem}
use Rattle.tree.proofs.Readings.{length_failed}
use Rattle.tree.proofs.Judging.{check_refused, check_behind, check_fault, check_passed}
use Rattle.tree.proofs.check.check_within.Goals as goal

pub returns-in_err-check_length : goal.returns-in_err-check_length
returns-in_err-check_length c =
    let p = err_from_is_err_and c.from_residual.result c.from_residual.ensures.1 in
    let told = judged_numbers (tree_numbers_lem _ _ _)
    (p.1 ∙ rw p.2 (sym (length_failed _ _ _ _ (sym c.check_length.ensures.answer ∙ c.in_err-check_length.was)))) in
    record { answer = told.0; numbers = told.1 }

pub returns-in_err-behind : goal.returns-in_err-behind
returns-in_err-behind c =
    let p = err_from_is_err_and c.from_residual-in_err-behind.result c.from_residual-in_err-behind.ensures.1 in
    let sized = sym c.check_length.ensures.answer ∙ c.in_ok-check_length.was in
    let told = judged_numbers (tree_numbers_lem _ _ _) (p.1 ∙ rw p.2 (check_refused _ _ _ sized _ c.read_file.ensures _ c.in_err-behind.was)) in
    record { answer = told.0; numbers = told.1 }

pub returns-then-behind-end : goal.returns-then-behind-end
returns-then-behind-end c =
    let sized = sym c.check_length.ensures.answer ∙ c.in_ok-check_length.was in
    let told = judged_numbers (tree_numbers_lem _ _ _)
    (c.failed.ensures ∙ check_behind _ _ _ sized _ c.read_file.ensures _ _ c.in_ok-behind.was c.if-behind-end.true) in
    record { answer = told.0; numbers = told.1 }

pub returns-then-fault-end : goal.returns-then-fault-end
returns-then-fault-end c =
    let sized = sym c.check_length.ensures.answer ∙ c.in_ok-check_length.was in
    let told = judged_numbers (tree_numbers_lem _ _ _)
    (c.failed-then-fault-end.ensures ∙ check_fault _ _ _ sized _ c.read_file.ensures _ _ c.in_ok-behind.was c.if-behind-end.false c.if-fault-end.true) in
    record { answer = told.0; numbers = told.1 }

pub returns : goal.returns
returns c =
    let sized = sym c.check_length.ensures.answer ∙ c.in_ok-check_length.was in
    let told = judged_numbers (tree_numbers_lem _ _ _)
    (check_passed _ _ _ sized _ c.read_file.ensures _ _ c.in_ok-behind.was c.if-behind-end.false c.if-fault-end.false) in
    record { answer = told.0; numbers = told.1 }
