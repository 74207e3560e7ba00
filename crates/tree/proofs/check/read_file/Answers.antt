-- In a plain tree no text changes what was found, so the file's record is the one that is read with a byte found.
use mathlib.Core.Path.{sym, ◌∙◌}
use Rattle.std.proofs.lemmas.Result.{err_from_is_err_and}
use Rattle.tree.proofs.Plain.{file_plain}
use Rattle.tree.proofs.check.read_file.Goals as goal

pub returns-in_err-behind : goal.returns-in_err-behind
returns-in_err-behind c =
    let p = err_from_is_err_and c.from_residual.result c.from_residual.ensures.1 in
    rw (p.1, p.2) (file_plain _ (sym c.is_plain.ensures ∙ c.if-not-is_plain.false) _ _ _ c.read_record-2.ensures _ c.in_err-behind.was)

pub returns : goal.returns
returns c = file_plain _ (sym c.is_plain.ensures ∙ c.if-not-is_plain.false) _ _ _ c.read_record-2.ensures _ c.in_ok-behind.was
