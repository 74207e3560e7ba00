-- The tests of the definition.
use Rattle.tree.specs.Tree.{built}
use Rattle.tree.specs.declared.grammar.Kind.TheVariants.{Error}
use Rattle.leads.proofs.Numbered.{same_number}
use Rattle.leads.proofs.breaks.Goals as goal

pub returns-then-eq : goal.returns-then-eq
unfolding built
returns-then-eq c = rw (same_number c.args.kind Error c.if-eq.ensures)

pub returns-then-eq-2 : goal.returns-then-eq-2
unfolding built
returns-then-eq-2 c =
    rw (same_number c.args.kind Error c.if-eq.ensures, same_number c.args.previous c.args.kind c.if-eq-2.ensures) c.after_same.ensures

pub returns : goal.returns
unfolding built
returns c = rw (same_number c.args.kind Error c.if-eq.ensures, same_number c.args.previous c.args.kind c.if-eq-2.ensures) c.after_other.ensures
