-- A head that is missing or was not read, which cannot be where the token passed; and its own bytes.
use Rattle.losses.proofs.HeadFound.{head_missed, head_unread, head_taken}
use Rattle.losses.proofs.firsts.Search.head_use.Goals as goal

pub returns-in_err-head-clause-takes : goal.returns-in_err-head-clause-takes
returns-in_err-head-clause-takes c passed token = head_missed _ _ _ _ c.head_place.ensures.answer c.in_err-head.was passed token

pub returns-in_err-own-clause-takes : goal.returns-in_err-own-clause-takes
returns-in_err-own-clause-takes c passed token =
    head_unread _ _ _ _ c.head_place.ensures.answer _ c.in_ok-head.was c.read_own.ensures.answer c.in_err-own.was passed token

pub returns-clause-takes : goal.returns-clause-takes
returns-clause-takes c =
    let own = c.read_own.ensures in
    head_taken _ _ _ _ c.head_place.ensures.answer _ c.in_ok-head.was own.answer _ own.fits c.in_ok-own.was c.own_use.ensures
