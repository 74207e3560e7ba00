-- The loop passes over the fields whose bits do not stand: the plan at its head gives the same next part as the plan at the start.
use mathlib.Core.Path.{◌≡◌}
use Rattle.tree.specs.Plans.{next_part}
use Rattle.tree.proofs.check.Plan.step.Given as goal

abbrev pub invariant-loop-self : goal.invariant-loop-self
invariant-loop-self l = next_part l.initial.self ≡ next_part l.self

abbrev pub decreases-loop-self : goal.decreases-loop-self
decreases-loop-self l = l.self.row
