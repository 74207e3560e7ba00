-- The record is read with all its parts; the byte 0 stands for one that no text may hold, so that no text is scanned.
use mathlib.Core.Path.{◌∙◌}
use Rattle.std.proofs.lemmas.Result.{err_from_is_err_and}
use Rattle.tree.proofs.Heads.{skip_read}
use Rattle.tree.proofs.Numbers.{skip_known}
use Rattle.tree.proofs.parts.skip.Goals as goal

pub returns-in_err-end : goal.returns-in_err-end
returns-in_err-end c =
    let p = err_from_is_err_and c.from_residual.result c.from_residual.ensures.1 in
    let told = skip_known _ _ _ _ (p.1 ∙ rw p.2 (skip_read _ _ _ _ _ _ _ c.read_record.ensures c.in_err-end.was)) in
    record { answer = told.0; numbers = told.1 }

pub returns : goal.returns
returns c =
    let told = skip_known _ _ _ _ (skip_read _ _ _ _ _ _ _ c.read_record.ensures c.in_ok-end.was) in
    record { answer = told.0; numbers = told.1 }
