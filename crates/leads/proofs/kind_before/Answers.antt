-- A number past a byte is of no kind; any other is that of its byte's kind, if it has one.
use mathlib.Core.Path.{refl, sym, ◌∙◌}
use Rattle.tree.proofs.KindLayout.{kind_number_lem}
use Rattle.leads.proofs.Stood.{past_kinds, none_alike}
use Rattle.leads.proofs.kind_before.Goals as goal

pub returns-then-number-gt255 : goal.returns-then-number-gt255
returns-then-number-gt255 c = none_alike c.args.number (past_kinds c.args.number c.if-number-gt255.true)

pub returns-in-Some : goal.returns-in-Some
returns-in-Some c context kind block = rw (kind_number_lem c.args.number c.in-Some.kind (sym c.of_byte.ensures ∙ c.in-Some.is)) refl

pub returns-in-None : goal.returns-in-None
returns-in-None c = none_alike c.args.number (sym c.of_byte.ensures ∙ c.in-None.is)
