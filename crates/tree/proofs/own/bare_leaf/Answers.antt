-- A text that ends behind the two bytes of a leaf without trivia ends the leaf.
use Rattle.std.specs.Prelude.{Ok}
use mathlib.Core.Path.{◌≡◌, sym, ap, ◌∙◌}
use native.Mathlib.Omega.{arith}
use Rattle.tree.specs.Walk.{bare_leaf}
use Rattle.tree.specs.declared.own.Own.{Own}
use Rattle.tree.proofs.OwnReading.{own_bare}
use Rattle.tree.proofs.own.bare_leaf.Goals as goal

pub returns : goal.returns
returns c = λ own is.
    let leaf : bare_leaf c.args.at c.in_ok-end.end ≡ own = cc in
    own_bare _ _ _ c.rule_of-rule.ensures (sym c.may_stand.ensures ∙ c.if-not-may_stand.false) (omega arith) c.if-tree-at-ne-LEAF.false c.if-tree-at-ne2.false _
    (sym c.text_end.ensures ∙ c.in_ok-end.was)
    ∙ ap (λ (own : Own). Ok own) leaf
