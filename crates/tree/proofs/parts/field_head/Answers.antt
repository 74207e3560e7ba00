-- The same tests as the definition's, by the kind instead of its number.
use mathlib.Core.Path.{refl, ap}
use Rattle.std.specs.Prelude.{Ok}
use Rattle.tree.specs.Parts.{field_head}
use Rattle.tree.specs.declared.parts.Head.{Head}
use Rattle.tree.proofs.KindNumbers.{other_number}
use Rattle.tree.proofs.parts.field_head.Goals as goal

pub returns-in-Data : goal.returns-in-Data
unfolding field_head
returns-in-Data c = rw c.in-Data.is c.behind_field.ensures

pub returns-in-BinaryExpression : goal.returns-in-BinaryExpression
unfolding field_head
returns-in-BinaryExpression c = rw c.in-BinaryExpression.is c.behind_field-in-BinaryExpression.ensures

pub returns-in_default : goal.returns-in_default
unfolding field_head
returns-in_default c =
    rw (other_number 5 refl c.in_default.not-Data, other_number 28 refl c.in_default.not-BinaryExpression)
    (ap (λ (head : Head). Ok head) c.first_field.ensures)
