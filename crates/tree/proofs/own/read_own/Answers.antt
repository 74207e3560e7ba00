-- Each answer is the one that the definition has after the same tests, and what the definition reads fits.
use mathlib.Core.Path.{sym, ap, ◌∙◌}
use borrow.Author.Tests.{le-leb, lt-leb, eq-eqb}
use Rattle.std.specs.Prelude.{Err}
use Rattle.answers.specs.declared.Refusal.{Refusal}
use Rattle.tree.specs.Own.{read_own}
use Rattle.tree.proofs.OwnReading.{read_found, read_fits}
use Rattle.tree.proofs.Numbers.{own_known}
use Rattle.tree.proofs.own.read_own.Goals as goal

pub returns-then-tree-at : goal.returns-then-tree-at
unfolding read_own
returns-then-tree-at c =
    let told = own_known _ _ _ _ (sym (rw (le-leb _ _ c.if-tree-at.true) (ap (λ (why : Refusal). Err why) (sym c.layout.ensures)))) tt in
    record { answer = told.0; fits = told.1.0; numbers = told.1.1 }

pub returns-then-levels-eq0 : goal.returns-then-levels-eq0
unfolding read_own
returns-then-levels-eq0 c =
    let told = own_known _ _ _ _ (sym (rw (lt-leb _ _ c.if-tree-at.false, eq-eqb _ _ c.if-levels-eq0.true))) tt in
    record { answer = told.0; fits = told.1.0; numbers = told.1.1 }

pub returns-in_default : goal.returns-in_default
returns-in_default c =
    let same = read_found _ _ _ _ c.if-tree-at.false c.if-levels-eq0.false _ c.own_at-found.ensures _ c.in_default.is in
    let read = ap (λ (why : Refusal). Err why) c.layout-in_default.ensures ∙ same in
    let told = own_known _ _ _ _ read (read_fits _ _ _ _ _ read) in
    record { answer = told.0; fits = told.1.0; numbers = told.1.1 }

pub returns : goal.returns
returns c =
    let same = read_found _ _ _ _ c.if-tree-at.false c.if-levels-eq0.false _ c.own_at-found.ensures _ c.in-Some.is in
    let told = own_known _ _ _ _ same (read_fits _ _ _ _ _ same) in
    record { answer = told.0; fits = told.1.0; numbers = told.1.1 }
