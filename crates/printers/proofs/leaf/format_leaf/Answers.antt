-- A walk that has ended stays; own bytes that were read are printed, and a refusal ends the walk.
use mathlib.Core.Path.{refl, sym, ap, ◌∙◌}
use Rattle.leaves.specs.Leaves.{own_events}
use Rattle.printers.specs.Texts.{style_of}
use Rattle.printers.proofs.Going.{has_ended, stops}
use Rattle.printers.proofs.Leaves.{own_goes, leaf_goes}
use Rattle.printers.proofs.leaf.format_leaf.Goals as goal

pub returns-then-is_some-clause-own : goal.returns-then-is_some-clause-own
returns-then-is_some-clause-own c = has_ended (sym c.is_some.ensures ∙ c.if-is_some.true)

pub returns-then-is_some-clause-leaf : goal.returns-then-is_some-clause-leaf
returns-then-is_some-clause-leaf c leaves = has_ended (sym c.is_some.ensures ∙ c.if-is_some.true)

pub returns-in-Ok-clause-own : goal.returns-in-Ok-clause-own
returns-in-Ok-clause-own c = own_goes _ _ _ _ _ c.read_own.ensures.answer c.read_own.ensures.fits c.in-Ok.is c.format_own.ensures

pub returns-in-Ok-clause-leaf : goal.returns-in-Ok-clause-leaf
returns-in-Ok-clause-leaf c leaves = leaf_goes _ _ _ _ leaves (returns-in-Ok-clause-own c)

pub returns-in-Err-clause-own : goal.returns-in-Err-clause-own
returns-in-Err-clause-own c =
    let self = c.args.printer.now in
    stops (sym c.is_some.ensures ∙ c.if-is_some.false) refl refl refl
    (ap (own_events self.context (style_of c.args.leaf.style) c.args.leaf.shown self.tree.now) (sym c.read_own.ensures.answer ∙ c.in-Err.is))

pub returns-in-Err-clause-leaf : goal.returns-in-Err-clause-leaf
returns-in-Err-clause-leaf c leaves = leaf_goes _ _ _ _ leaves (returns-in-Err-clause-own c)
