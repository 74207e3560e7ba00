-- Only a text of one byte can be a newline.
use mathlib.Core.Path.{◌∙◌}
use borrow.Author.Tests.{ne_eqb}
use Rattle.printing.proofs.Pushing.{newline_one, newline_other}
use Rattle.printers.proofs.is_newline.Goals as goal

pub returns-then-text-eq1 : goal.returns-then-text-eq1
returns-then-text-eq1 c = newline_one _ c.if-text-eq1.true

pub returns-else-text-eq1 : goal.returns-else-text-eq1
returns-else-text-eq1 c = ne_eqb _ _ c.if-text-eq1.false ∙ newline_other _ c.if-text-eq1.false
