-- Each reading is that of the definition, and the first that is refused is the answer.
use Rattle.std.proofs.lemmas.Result.{err_from_is_err_and}
use Rattle.tree.proofs.Heads.{head_behind_read}
use Rattle.leads.proofs.read_token.Goals as goal

pub returns-in_err-head : goal.returns-in_err-head
returns-in_err-head c =
    let refused = err_from_is_err_and c.from_residual-in_err-head.result c.from_residual-in_err-head.ensures.1 in
    let found = head_behind_read _ _ _ _ _ c.read_own.ensures.answer _ c.in_ok-token.was in
    rw (refused.1, refused.2, ← c.in_ok-token.ensures.answer, ← found, ← c.in_err-head.ensures.answer)

pub returns-in_err-head-2 : goal.returns-in_err-head-2
returns-in_err-head-2 c =
    let refused = err_from_is_err_and c.from_residual-in_err-head-2.result c.from_residual-in_err-head-2.ensures.1 in
    let found = head_behind_read _ _ _ _ _ c.read_own.ensures.answer _ c.in_ok-token.was in
    rw (refused.1, refused.2, ← c.in_ok-token.ensures.answer, ← found, ← c.in_ok-head.ensures.answer, ← c.in_err-head-2.ensures.answer)

pub returns : goal.returns
returns c =
    let found = head_behind_read _ _ _ _ _ c.read_own.ensures.answer _ c.in_ok-token.was in
    rw (← c.in_ok-token.ensures.answer, ← found, ← c.in_ok-head.ensures.answer, ← c.in_ok-head-2.ensures.answer)
