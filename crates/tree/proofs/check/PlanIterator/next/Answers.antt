-- The step gives the first part that is left, and leaves the others.
use Rattle.tree.proofs.Planning.{step_yields, step_goes}
use Rattle.tree.proofs.check.PlanIterator.next.Goals as goal

pub returns-clause-steps : goal.returns-clause-steps
returns-clause-steps c = step_yields _ _ _ c.step.ensures.part c.step.ensures.end

pub returns-clause-goes : goal.returns-clause-goes
returns-clause-goes c = step_goes _ _ _ (step_yields _ _ _ c.step.ensures.part c.step.ensures.end)
