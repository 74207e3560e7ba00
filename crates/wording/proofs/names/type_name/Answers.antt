-- A name for each type.
use mathlib.Core.Path.{refl}
use Rattle.text.specs.Literals.{ascii}
use Rattle.wording.proofs.names.type_name.Goals as goal

pub returns-in-Code : goal.returns-in-Code
unfolding ascii
returns-in-Code c = rw c.in-Code.is refl

pub returns-in-Label : goal.returns-in-Label
unfolding ascii
returns-in-Label c = rw c.in-Label.is refl

pub returns-in-Comment : goal.returns-in-Comment
unfolding ascii
returns-in-Comment c = rw c.in-Comment.is refl
