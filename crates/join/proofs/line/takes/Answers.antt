-- Each arm is a case of `taken`.
use borrow.Author.Tests.{eq-eqb, ne_eqb}
use Rattle.join.proofs.line.takes.Goals as goal

pub returns-in-None : goal.returns-in-None
returns-in-None c = rw (c.in-None.is, eq-eqb _ _ c.if-spot.true)

pub returns-in-None-2 : goal.returns-in-None-2
returns-in-None-2 c = rw (c.in-None.is, ne_eqb _ _ c.if-spot.false)
