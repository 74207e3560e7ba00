-- Each answer is the one that the definition has after the same tests.
use mathlib.Core.Path.{sym}
use Rattle.tree.proofs.KindLayout.{kind_number_lem}
use Rattle.tree.proofs.OwnReading.{own_judged, own_trivia_lem, own_rest}
use Rattle.tree.proofs.own.own_at.Goals as goal

pub returns-in-Some : goal.returns-in-Some
returns-in-Some c = sym (c.bare_leaf.ensures _ c.in-Some.is)

pub returns-in_err-kind : goal.returns-in_err-kind
returns-in_err-kind c = rw c.from_residual.ensures (own_judged _ _ _ c.rule_of-rule.ensures c.judge.ensures.judged _ c.in_err-kind.was)

pub returns-in_err-trivia : goal.returns-in_err-trivia
returns-in_err-trivia c =
    rw c.from_residual-in_err-trivia.ensures
    (own_trivia_lem _ _ _ c.rule_of-rule.ensures c.judge.ensures.judged _ _ c.in_ok-kind.was c.read_trivia.ensures _ c.in_err-trivia.was)

pub returns-in_err-rest : goal.returns-in_err-rest
returns-in_err-rest c =
    let is = kind_number_lem _ _ c.in_ok-kind.ensures.kind in
    rw c.from_residual-in_err-rest.ensures
    (own_rest _ _ _ c.rule_of-rule.ensures c.judge.ensures.judged _ _ c.in_ok-kind.was c.read_trivia.ensures _ c.in_ok-trivia.was
    (rw is at c.read_rest.ensures _) _ c.in_err-rest.was)

pub returns : goal.returns
returns c =
    let is = kind_number_lem _ _ c.in_ok-kind.ensures.kind in
    own_rest _ _ _ c.rule_of-rule.ensures c.judge.ensures.judged _ _ c.in_ok-kind.was c.read_trivia.ensures _ c.in_ok-trivia.was
    (rw is at c.read_rest.ensures _) _ c.in_ok-rest.was
