-- An `Expression` and any other kind, in a list or in none.
use mathlib.Core.Path.{refl}
use Rattle.tree.proofs.KindNumbers.{other_number}
use Rattle.losses.proofs.uses.token_spot.Goals as goal

pub returns-in-Expression : goal.returns-in-Expression
returns-in-Expression c = rw (c.in-Expression.is, c.if-listed.true) refl

pub returns-in-Expression-2 : goal.returns-in-Expression-2
returns-in-Expression-2 c = rw (c.in-Expression.is, c.if-listed.false) refl

pub returns-in_default : goal.returns-in_default
returns-in_default c = rw (other_number 9 refl c.in_default.not-Expression, c.if-listed-2.true) refl

pub returns-in_default-2 : goal.returns-in_default-2
returns-in_default-2 c = rw (other_number 9 refl c.in_default.not-Expression, c.if-listed-2.false) refl
