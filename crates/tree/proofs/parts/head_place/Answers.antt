-- Own bytes that were not read are the refusal; behind those that were, the head is found.
use mathlib.Core.Path.{◌∙◌}
use Rattle.std.proofs.lemmas.Result.{err_from_is_err_and}
use Rattle.tree.proofs.Heads.{head_refused, head_behind_read}
use Rattle.tree.proofs.Numbers.{head_known}
use Rattle.tree.proofs.parts.head_place.Goals as goal

pub returns-in_err-own : goal.returns-in_err-own
returns-in_err-own c =
    let p = err_from_is_err_and c.from_residual.result c.from_residual.ensures.1 in
    let told = head_known _ _ _ _ (p.1 ∙ rw p.2 (head_refused _ _ _ _ _ c.read_own.ensures.answer _ c.in_err-own.was)) in
    record { answer = told.0; numbers = told.1 }

pub returns : goal.returns
returns c =
    let told = head_known _ _ _ _ (c.head_behind.ensures.answer ∙ head_behind_read _ _ _ _ _ c.read_own.ensures.answer _ c.in_ok-own.was) in
    record { answer = told.0; numbers = told.1 }
