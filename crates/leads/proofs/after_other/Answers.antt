-- The tests of the definition.
use mathlib.Core.Path.{refl}
use Rattle.tree.specs.Tree.{built}
use Rattle.tree.specs.declared.grammar.Kind.TheVariants.{Label}
use Rattle.tree.proofs.KindNumbers.{other_number}
use Rattle.leads.proofs.Numbered.{same_number, one_of_two}
use Rattle.events.specs.Trees.{one_of}
use Rattle.leads.proofs.after_other.Goals as goal

pub returns-then-block : goal.returns-then-block
unfolding built
returns-then-block c = rw (same_number c.args.kind Label c.if-eq.ensures, c.if-block.true)

pub returns-in-Braces : goal.returns-in-Braces
unfolding built
returns-in-Braces c = rw (same_number c.args.kind Label c.if-eq.ensures, c.if-block.false) (rw (one_of_two 2 10 refl refl c.in-Braces.is))

pub returns-in_default : goal.returns-in_default
unfolding built one_of
returns-in_default c =
    rw (
      same_number c.args.kind Label c.if-eq.ensures,
      c.if-block.false,
      other_number 2 refl c.in_default.not-Braces,
      other_number 10 refl c.in_default.not-If,
    )

pub returns : goal.returns
unfolding built
returns c = rw (same_number c.args.kind Label c.if-eq.ensures, c.grouped.ensures)
