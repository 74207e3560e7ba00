-- Where it does not stand, or the walk has ended, nothing is done; what skipping met ends the walk.
use mathlib.Core.Path.{refl, sym, ap, ◌∙◌}
use Rattle.events.specs.Refusals.{first_refusal}
use Rattle.events.specs.Trees.{stop_at}
use Rattle.events.proofs.Refusals.{skip_passed, skip_refused}
use Rattle.printers.proofs.Going.{has_ended, stays, there, stops}
use Rattle.printers.proofs.record.skip.Goals as goal
use Rattle.printers.proofs.record.skip.Goals.{then-not-stands-via-then-not-stands, then-not-stands-via-else-not-stands+then-is_some}

pub returns-then-not-stands : goal.returns-then-not-stands
unfolding first_refusal
returns-then-not-stands c = elim c.then-not-stands.branch [
  | then-not-stands-via-then-not-stands w ↦ rw w.if-not-stands.true stays
  | then-not-stands-via-else-not-stands+then-is_some w ↦ has_ended (sym w.is_some.ensures ∙ w.if-is_some.true)
]

pub returns-in-Ok : goal.returns-in-Ok
returns-in-Ok c =
    let passed = skip_passed _ _ _ _ _ (sym c.skip.ensures.answer ∙ c.in-Ok.is) in
    rw c.if-not-stands.false (there c.move_to.ensures.goes (ap stop_at (sym passed.0)) passed.1)

pub returns-in-Err : goal.returns-in-Err
returns-in-Err c =
    let refused = skip_refused _ _ _ _ _ (sym c.skip.ensures.answer ∙ c.in-Err.is) in
    rw c.if-not-stands.false (stops (sym c.is_some.ensures ∙ c.if-is_some.false) refl refl refl (ap stop_at refused))
