-- Each answer is the one that the definition has after the same tests.
use mathlib.Core.Path.{sym, ◌∙◌}
use native.Mathlib.Omega.{arith}
use lib.ListN.{get_or}
use Rattle.tree.proofs.KindLayout.{kind_number_lem}
use Rattle.tree.proofs.OwnReading.{first_alien, first_unknown, first_short, first_fits}
use Rattle.tree.proofs.own.judge.Goals as goal

pub returns-in_err-kind-clause-judged : goal.returns-in_err-kind-clause-judged
returns-in_err-kind-clause-judged c = rw c.from_residual.ensures (first_unknown _ _ _ _ (sym c.of_byte.ensures ∙ c.in_err-kind.was))

pub returns-then-not-may_stand-clause-judged : goal.returns-then-not-may_stand-clause-judged
returns-then-not-may_stand-clause-judged c =
    let is = kind_number_lem _ _ (sym c.of_byte.ensures ∙ c.in_ok-kind.was) in
    first_alien _ _ _ _ (sym (rw is at c.may_stand.ensures) ∙ c.if-not-may_stand.true)

pub returns-then-tree-at-lt2-clause-judged : goal.returns-then-tree-at-lt2-clause-judged
returns-then-tree-at-lt2-clause-judged c =
    let known = sym c.of_byte.ensures ∙ c.in_ok-kind.was in
    let is = kind_number_lem _ _ known in
    first_short _ _ _ _ _ known (sym (rw is at c.may_stand.ensures) ∙ c.if-not-may_stand.false) (omega arith)

pub returns-clause-judged : goal.returns-clause-judged
returns-clause-judged c =
    let known = sym c.of_byte.ensures ∙ c.in_ok-kind.was in
    let is = kind_number_lem (get_or c.args.tree.now c.args.at 0) _ known in
    rw (c.then_some.ensures, c.map_fits.ensures, is, c.from-map.ensures)
    (first_fits _ _ _ _ _ known (sym (rw is at c.may_stand.ensures) ∙ c.if-not-may_stand.false) (omega arith))
