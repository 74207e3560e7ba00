-- A head stands where a level is left and a byte stands: by its kind, if it has one.
use mathlib.Core.Path.{sym, ap, ◌∙◌}
use Rattle.std.specs.Prelude.{Ok}
use Rattle.tree.specs.declared.parts.Head.{Head}
use Rattle.tree.proofs.Heads.{head_none, head_there, head_unknown}
use Rattle.tree.proofs.Numbers.{behind_known}
use Rattle.tree.proofs.parts.head_behind.Goals as goal

pub returns-then-levels-eq0 : goal.returns-then-levels-eq0
returns-then-levels-eq0 c =
    let told = behind_known _ _ _ _ _ (rw c.layout.ensures (head_none _ _ _ _ _ c.then-levels-eq0.either)) in
    record { answer = told.0; numbers = told.1 }

pub returns-in-Some : goal.returns-in-Some
returns-in-Some c =
    let told = behind_known _ _ _ _ _
    (c.token_head.ensures _ (sym c.of_byte.ensures ∙ c.in-Some.is) ∙ sym (head_there _ _ _ _ _ c.if-levels-eq0.false c.if-tree-at.false)) in
    record { answer = told.0; numbers = told.1 }

pub returns-in-None : goal.returns-in-None
returns-in-None c =
    let told = behind_known _ _ _ _ _
    (ap (λ (head : Head). Ok head) c.first_field.ensures
    ∙ head_unknown _ _ _ _ _ c.if-levels-eq0.false c.if-tree-at.false (sym c.of_byte.ensures ∙ c.in-None.is)) in
    record { answer = told.0; numbers = told.1 }
