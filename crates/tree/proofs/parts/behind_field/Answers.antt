-- By cases on what was skipped.
use mathlib.Core.Path.{sym, ◌∙◌}
use Rattle.std.proofs.lemmas.Result.{err_from_is_err_and}
use Rattle.tree.proofs.parts.behind_field.Goals as goal

pub returns-in_err-place : goal.returns-in_err-place
returns-in_err-place c =
    let p = err_from_is_err_and c.from_residual.result c.from_residual.ensures.1 in
    rw (p.1, p.2, sym c.skip.ensures.answer ∙ c.in_err-place.was)

pub returns : goal.returns
returns c = rw (sym c.skip.ensures.answer ∙ c.in_ok-place.was)
