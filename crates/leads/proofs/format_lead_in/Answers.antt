-- A walk that has ended stays; what is met on the way ends it; else the trivia are run, then the newline.
use mathlib.Core.Path.{refl, sym, ap, ◌∙◌}
use Rattle.events.specs.Trees.{stop_at}
use Rattle.printers.proofs.Going.{has_ended, stops_first, over_then, room_left}
use Rattle.printers.proofs.Exact.{◌exactly◌}
use Rattle.leads.specs.Leads.{before_of, lead_by, lead_numbers}
use Rattle.leads.proofs.Leads.{token_refused, token_numbers, lead_goes}
use Rattle.leads.proofs.format_lead_in.Goals as goal

pub returns-then-is_some : goal.returns-then-is_some
unfolding lead_by lead_numbers
returns-then-is_some c =
    let over = sym c.is_some.ensures ∙ c.if-is_some.true in
    record { leads = λ next end. has_ended over; answer = rw over refl; room = refl; held = tt; numbers = rw over refl }

pub returns-in-Ok : goal.returns-in-Ok
unfolding lead_by lead_numbers
returns-in-Ok c =
    let on = sym c.is_some.ensures ∙ c.if-is_some.false in
    let is = sym c.read_token.ensures ∙ c.in-Ok.is in
    let done =
    lead_goes c.args.drops (before_of c.args.stood) c.args.levels c.in-Ok.lead is c.has_block.ensures
    (c.list_trivia.ensures exactly c.break_before.ensures exactly c.move_to.ensures) in
    record {
      leads = (is, done.goes);
      answer = rw (on, is) refl;
      room = room_left done.goes;
      held = done.keeps;
      numbers = rw on (token_numbers _ _ _ is);
    }

pub returns-in-Err : goal.returns-in-Err
unfolding lead_by lead_numbers
returns-in-Err c =
    let on = sym c.is_some.ensures ∙ c.if-is_some.false in
    let is = sym c.read_token.ensures ∙ c.in-Err.is in
    record {
      leads = λ next end. over_then {end = λ page at. at} (stops_first on refl refl refl (ap stop_at (token_refused _ _ _ _ is))) refl;
      answer = rw (on, is) refl;
      room = refl;
      held = tt;
      numbers = rw on (token_numbers _ _ _ is);
    }
