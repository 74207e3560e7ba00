-- By the bits.
use mathlib.Core.Path.{refl}
use native.Mathlib.Omega.{arith}
use borrow.Author.Tests.{ne_eqb}
use Rattle.text.specs.Literals.{ascii}
use Rattle.wording.proofs.places.fate.Goals as goal

pub returns-in-32 : goal.returns-in-32
unfolding ascii
returns-in-32 c = rw c.in-32.is refl

pub returns-in-64 : goal.returns-in-64
unfolding ascii
returns-in-64 c = rw c.in-64.is refl

pub returns-in_default : goal.returns-in_default
unfolding ascii
returns-in_default c = rw (ne_eqb c.args.bits 32 (omega arith), ne_eqb c.args.bits 64 (omega arith)) refl
