-- A refusal of the walk is handed on; else the setter is given the chunks that the walk holds, and its promise is the call's.
use Rattle.std.specs.Prelude.{Err}
use Rattle.std.proofs.Common.{sym, ap, ◌∙◌}
use Rattle.std.proofs.lemmas.Result.{err_from_is_err_and}
use Rattle.answers.specs.declared.Refusal.{Refusal}
use Rattle.formatting.proofs.Lessons.{refused_lesson, used_fits, joined_lesson}
use Rattle.formatting.proofs.format_in.Goals as goal

pub returns-in_err-used : goal.returns-in_err-used
returns-in_err-used c =
    let refused = err_from_is_err_and c.from_residual.result c.from_residual.ensures.1 in
    let lesson = refused_lesson _ _ _ c.chunks_in_one_pass.ensures.answer c.in_err-used.was in
    record { answer = refused.1 ∙ ap (λ (why : Refusal). Err why) refused.2 ∙ sym c.in_err-used.was ∙ lesson.answered; buffer = lesson.buffer; demands = lesson.lesson }

pub slice_bounds-join_chunks-end : goal.slice_bounds-join_chunks-end
slice_bounds-join_chunks-end c =
    used_fits _ _ _ _ c.chunks_in_one_pass.ensures.answer c.in_ok-used.was c.chunks_in_one_pass.ensures.stored

pub returns : goal.returns
returns c =
    let said = c.join_chunks.ensures in
    let lesson =
    joined_lesson _ _ _ _ c.chunks_in_one_pass.ensures.answer c.in_ok-used.was c.chunks_in_one_pass.ensures.stored
    said.answer said.buffer said.demands in
    record { answer = lesson.answered; buffer = lesson.buffer; demands = lesson.lesson }
