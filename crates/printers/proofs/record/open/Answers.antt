-- Where it does not stand, the walk has ended, or its own bytes are refused, nothing is left to print; own bytes that were read have their trivia printed.
use mathlib.Core.Path.{refl, sym, ◌∙◌}
use Rattle.events.specs.Trees.{events_in}
use Rattle.leaves.proofs.Records.{read_refused}
use Rattle.printers.specs.Records.{opened_by, opened_numbers}
use Rattle.printers.proofs.Going.{has_ended, stays, stops, room_left}
use Rattle.printers.proofs.Exact.{◌exactly◌}
use Rattle.printers.proofs.Opening.{trivia_read}
use Rattle.printers.proofs.record.open.Goals as goal
use Rattle.printers.proofs.record.open.Goals.{then-not-stands-via-then-not-stands, then-not-stands-via-else-not-stands+then-is_some}

pub returns-then-not-stands : goal.returns-then-not-stands
unfolding events_in opened_by opened_numbers
returns-then-not-stands c = elim c.then-not-stands.branch [
  | then-not-stands-via-then-not-stands w ↦ rw w.if-not-stands.true (record { opened = λ place. stays; answer = refl; room = refl; held = tt; numbers = refl })
  | then-not-stands-via-else-not-stands+then-is_some w ↦
      let over = sym w.is_some.ensures ∙ w.if-is_some.true in
      record { opened = λ place. has_ended over; answer = rw (w.if-not-stands.false, over) refl; room = refl; held = tt; numbers = rw (w.if-not-stands.false, over) refl }
]

pub returns-in-Ok : goal.returns-in-Ok
unfolding opened_by opened_numbers
returns-in-Ok c =
    let read = c.read_own.ensures in
    let some = c.if-not-stands.false in
    let on = sym c.is_some.ensures ∙ c.if-is_some.false in
    let is = sym read.answer ∙ c.in-Ok.is in
    let shown = trivia_read _ _ read.fits c.in-Ok.is (c.shown_trivia.ensures exactly c.move_to.ensures) in
    record {
      opened = (some, is, rw c.in-Ok.is at read.fits, shown.goes);
      answer = rw (some, on, is) refl;
      room = room_left shown.goes;
      held = shown.keeps;
      numbers = rw (some, on) (rw c.in-Ok.is at read.numbers);
    }

pub returns-in-Err : goal.returns-in-Err
unfolding events_in opened_by opened_numbers
returns-in-Err c =
    let some = c.if-not-stands.false in
    let on = sym c.is_some.ensures ∙ c.if-is_some.false in
    let is = sym c.read_own.ensures.answer ∙ c.in-Err.is in
    let refused = read_refused _ _ _ _ _ is in
    record {
      opened = λ place. rw some (stops on refl refl refl (rw refused.0 refl));
      answer = rw (some, on, is) refl;
      room = refl;
      held = tt;
      numbers = rw (some, on) (rw c.in-Err.is at c.read_own.ensures.numbers);
    }
