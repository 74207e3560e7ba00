-- The loop passes over the fields whose bits do not stand: the plan at its head gives the same next part as the plan at the start.
use mathlib.Core.Path.{◌≡◌, sym, ◌∙◌}
use native.Mathlib.Omega.{arith}
use Rattle.tree.proofs.Planning.{next_absent, next_field, next_none, next_item_lem}
use Rattle.tree.proofs.check.Plan.step.Goals as goal

pub returns-then-bit-eq1-clause-part : goal.returns-then-bit-eq1-clause-part
returns-then-bit-eq1-clause-part c =
    rw c.slot_class.ensures (sym (c.loop-self.invariant ∙ next_field _ c.loop-self-test.true c.if-bit-eq1.true))

pub loop-self-preserved : goal.loop-self-preserved
loop-self-preserved c = c.loop-self.invariant ∙ next_absent _ c.loop-self-test.true c.if-bit-eq1.false

pub returns-then-self-eq0-clause-part : goal.returns-then-self-eq0-clause-part
returns-then-self-eq0-clause-part c = sym (c.loop-self.invariant ∙ next_none _ c.loop-self-test.false c.if-self-eq0.true)

pub returns-then-self-eq0-clause-end : goal.returns-then-self-eq0-clause-end
returns-then-self-eq0-clause-end c = next_none _ c.loop-self-test.false c.if-self-eq0.true

pub returns-clause-part : goal.returns-clause-part
returns-clause-part c =
    let none : c.loop-self.self.row ≡ 0 = omega arith in
    rw none (sym (c.loop-self.invariant ∙ next_item_lem _ c.loop-self-test.false c.if-self-eq0.false))
