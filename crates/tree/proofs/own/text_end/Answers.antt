-- A text ends where its length says, if its rule allows its bytes.
use mathlib.Core.Path.{sym, ap, ◌∙◌}
use native.Mathlib.Omega.{arith}
use Rattle.tree.proofs.Spans.{text_to, text_sized, sized_inside}
use Rattle.tree.proofs.own.text_end.Goals as goal

pub returns-in_err-end : goal.returns-in_err-end
returns-in_err-end c =
    rw c.from_residual.ensures (sym (text_sized _ _ _ ∙ ap (text_to _ _ _) (sym c.sized_end.ensures ∙ c.in_err-end.was)))

pub overflow_add-at : goal.overflow_add-at
overflow_add-at c = omega (arith, sized_inside _ _ _ (sym c.sized_end.ensures ∙ c.in_ok-end.was))

pub slice_bounds-allows-count : goal.slice_bounds-allows-count
slice_bounds-allows-count c = omega (arith, sized_inside _ _ _ (sym c.sized_end.ensures ∙ c.in_ok-end.was))

pub slice_bounds-allows-start : goal.slice_bounds-allows-start
slice_bounds-allows-start c = omega (arith, sized_inside _ _ _ (sym c.sized_end.ensures ∙ c.in_ok-end.was))

pub slice_bounds-allows-end : goal.slice_bounds-allows-end
slice_bounds-allows-end c = omega (arith, sized_inside _ _ _ (sym c.sized_end.ensures ∙ c.in_ok-end.was))

pub returns : goal.returns
returns c =
    rw (c.then_some.ensures, c.allows.ensures) (sym (text_sized _ _ _ ∙ ap (text_to _ _ _) (sym c.sized_end.ensures ∙ c.in_ok-end.was)))
