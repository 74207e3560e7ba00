-- The walk showed the file's events. Where that settles that the tree is accepted, or the check passes it, they are what is held.
use mathlib.Core.Path.{◌≡◌, sym, ◌∙◌}
use Rattle.std.proofs.Common.{rules}
use Rattle.tokens.proofs.OnePass.{OnePass, pass_unsized, pass_passed, pass_settled}
use Rattle.tokens.proofs.Whole.{used_of}
use Rattle.tokens.proofs.one_pass_with.Goals as goal
use Rattle.tokens.proofs.one_pass_with.Goals.{then-not-settles+in_ok-check_tree, else-not-settles}

pub returns-in_err-check_length : goal.returns-in_err-check_length
returns-in_err-check_length c =
    let pass = pass_unsized _ _ _ _ (sym c.check_length.ensures.answer ∙ c.in_err-check_length.was) in
    record { answer = search rules ∙ pass.answered; stored = pass.holds; room = pass.whole }

pub returns : goal.returns
returns c =
    let used : c.map.result ≡ used_of c.walk_file-walked.result = search rules in
    let sized = sym c.check_length.ensures.answer ∙ c.in_ok-check_length.was in
    let walk = c.walk_file-walked.ensures in
    let pass : OnePass _ _ _ _ _ =
    elim c.if-not-settles.branch [
      | then-not-settles+in_ok-check_tree w ↦ pass_passed _ _ _ c.requires sized walk.answer walk.room (sym w.check_tree.ensures.answer ∙ w.in_ok-check_tree.was)
      | else-not-settles w ↦ pass_settled _ _ _ c.requires sized walk.answer walk.room (sym c.settles.ensures ∙ w.if-not-settles.false)
    ] in
    record { answer = used ∙ pass.answered; stored = pass.holds; room = pass.whole }
