-- Each answer is the one that the definition has after the same tests, for what the count or the text reads as.
use mathlib.Core.Path.{sym, ◌∙◌}
use native.Mathlib.Omega.{arith}
use Rattle.tree.proofs.OwnBytes.{text_held}
use Rattle.tree.proofs.OwnReading.{rest_list, rest_leaf, rest_bare, rest_none}
use Rattle.tree.proofs.own.read_rest.Goals as goal

pub returns-in_err-count-in-Vec : goal.returns-in_err-count-in-Vec
returns-in_err-count-in-Vec c = λ at.
    rw c.from_residual.ensures (rest_list _ at _ _ _ _ c.in-Vec.is _ (sym c.read_number.ensures ∙ c.in_err-count-in-Vec.was))

pub returns-in_ok-count-in-Vec : goal.returns-in_ok-count-in-Vec
returns-in_ok-count-in-Vec c = λ at. rest_list _ at _ _ _ _ c.in-Vec.is _ (sym c.read_number.ensures ∙ c.in_ok-count-in-Vec.was)

pub returns-in_err-end-in-Leaf : goal.returns-in_err-end-in-Leaf
returns-in_err-end-in-Leaf c = λ at.
    rw c.from_residual-in_err-end-in-Leaf.ensures (rest_leaf _ at _ _ _ _ c.in-Leaf.is c.if-map-lt2.false _ (sym c.text_end.ensures ∙ c.in_err-end-in-Leaf.was))

pub overflow_add-result-in-Leaf : goal.overflow_add-result-in-Leaf
overflow_add-result-in-Leaf c = omega (arith, text_held c.args.tree.now c.args.trivia.end _ c.args.text (sym c.text_end.ensures ∙ c.in_ok-end-in-Leaf.was))

pub returns-in_ok-end-in-Leaf : goal.returns-in_ok-end-in-Leaf
returns-in_ok-end-in-Leaf c = λ at.
    rest_leaf _ at _ _ _ _ c.in-Leaf.is c.if-map-lt2.false _ (sym c.text_end.ensures ∙ c.in_ok-end-in-Leaf.was)

pub returns-then-map-lt2 : goal.returns-then-map-lt2
returns-then-map-lt2 c = λ at. rest_bare _ at _ _ _ _ c.in-Leaf.is c.if-map-lt2.true

pub returns-in_default : goal.returns-in_default
returns-in_default c = λ at.
    rest_none _ at _ _ _ _ c.in_default.not-Vec c.in_default.not-Leaf c.in_default.not-PathItem
