-- A refusal of the check; one of the search, which cannot be where the check passed; no use, or the first record that has one.
use Rattle.std.proofs.Common.{sym, ap, ◌∙◌}
use Rattle.std.specs.Prelude.{Ok, Err}
use Rattle.answers.specs.declared.Refusal.{Refusal}
use Rattle.std.proofs.lemmas.Result.{err_from_is_err_and}
use Rattle.losses.proofs.Answered.{lost_refused, search_unrefused, passed_answer}
use Rattle.losses.proofs.Inside.{narrow_lost}
use Rattle.losses.proofs.search.lost.Goals as goal

pub returns-in_err-check_tree : goal.returns-in_err-check_tree
returns-in_err-check_tree c =
    let refused = err_from_is_err_and c.from_residual.result c.from_residual.ensures.1 in
    let told = narrow_lost _ _ _ (refused.1 ∙ lost_refused _ _ c.check_tree.ensures.answer (c.in_err-check_tree.was ∙ sym (ap (λ (why : Refusal). Err why) refused.2))) in
    record { answer = told.0; narrow = told.1.0; numbers = told.1.1 }

pub returns-in_err-visit : goal.returns-in_err-visit
returns-in_err-visit c =
    search_unrefused _ _ c.check_tree.ensures.answer c.in_ok-check_tree.was c.new-search.ensures.from c.new-search.ensures.firsts
    c.visit.ensures c.in_err-visit.was

pub returns : goal.returns
returns c =
    let loss = c.loss.ensures in
    let told = narrow_lost _ _ _
    (ap Ok loss.loss ∙ passed_answer _ _ c.check_tree.ensures.answer c.in_ok-check_tree.was c.new-search.ensures.from
    c.new-search.ensures.firsts c.visit.ensures loss.places) in
    record { answer = told.0; narrow = told.1.0; numbers = told.1.1 }
