-- The item ends where `trivium_end` says; a newline has no text.
use mathlib.Core.Path.{refl, sym, ◌∙◌}
use native.Mathlib.Omega.{arith}
use Rattle.tree.specs.Parts.{trivium_at}
use Rattle.tree.proofs.Coded.{other_code}
use Rattle.tree.proofs.OwnBytes.{item_held}
use Rattle.tree.proofs.parts.trivium_at.Goals as goal

pub returns-in_err-end : goal.returns-in_err-end
unfolding trivium_at
returns-in_err-end c = rw (c.from_residual.ensures, sym c.trivium_end.ensures ∙ c.in_err-end.was)

pub bounds-tree-at : goal.bounds-tree-at
bounds-tree-at c = omega (arith, item_held _ _ _ (sym c.trivium_end.ensures ∙ c.in_ok-end.was))

pub overflow_add-start : goal.overflow_add-start
overflow_add-start c = omega (arith, item_held _ _ _ (sym c.trivium_end.ensures ∙ c.in_ok-end.was))

pub returns-in_err-code : goal.returns-in_err-code
unfolding trivium_at
returns-in_err-code c =
    rw (c.from_residual-in_err-code.ensures, sym c.trivium_end.ensures ∙ c.in_ok-end.was, sym c.of_byte.ensures ∙ c.in_err-code.was) refl

pub returns-in-Newline : goal.returns-in-Newline
unfolding trivium_at
returns-in-Newline c =
    rw (sym c.trivium_end.ensures ∙ c.in_ok-end.was, sym c.of_byte.ensures ∙ c.in_ok-code.was, c.in-Newline.is) refl

pub returns-in_default : goal.returns-in_default
unfolding trivium_at
returns-in_default c =
    rw (sym c.trivium_end.ensures ∙ c.in_ok-end.was, sym c.of_byte.ensures ∙ c.in_ok-code.was, other_code _ c.in_default.not-Newline) refl
