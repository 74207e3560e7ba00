-- Printers one behind the other.
use mathlib.Core.Path.{◌≡◌, refl, sym, ap, subst, ◌∙◌}
use mathlib.Core.List.{List}
use Prim.Native.Nat.{ℕ}
use native.Mathlib.Omega.{arith}
use borrow.Author.Tests.{ne_eqb}
use Rattle.std.proofs.Common.{true, false, Option, Some, None, Ok, Err, is_some}
use Rattle.answers.specs.declared.Refusal.{Refusal}
use Rattle.printing.specs.Events.{Events, nothing, stop, ◌▹◌}
use Rattle.printing.specs.Running.{State, Run, going, ended, run, room_of, settled, Printed, finished, outcome, place_of, Shown}
use Rattle.printing.specs.declared.Context.{Context}
use Rattle.answers.specs.declared.Reason.TheVariants.{WorkRoom}
use Rattle.printing.proofs.Running.{Ran, run_ended, shows, alike, finish, stopped_there, stays_refused, ◌thence◌}
use Rattle.printers.specs.declared.Printer.{Printer}
use Rattle.printers.specs.Going.{Page, page_of, or_refused, state_of, answer_of, run_of, Goes}

-- an answer of a walk that has ended has no place
no_place : (answer : Printed) (left room : List ℕ) (why : Refusal) → outcome answer left ≡ ended room why → (at : ℕ) → place_of answer at ≡ at
no_place (Ok (state, at)) left room why is place = let z : ◌≡◌ {A = ℕ} 0 1 = cc in absurd (omega arith)
no_place (Err reason) left room why is place = refl

-- what is shown of a walk that has ended is shown of any events
over_shown : (over : Option Refusal) (state : State) (at : ℕ) (room : List ℕ) {answer : Printed} {left : List ℕ} {events others : Events}
    {end behind : ℕ} → is_some over ≡ true → Shown answer left events (outcome (or_refused over (Ok (state, at))) room) end
    → Shown answer left others (outcome (or_refused over (Ok (state, at))) room) behind
over_shown None state at room some shown = let z : ◌≡◌ {A = ℕ} 0 1 = cc in absurd (omega arith)
over_shown (Some why) state at room {answer} {left} {events} {others} {behind = behind} some shown =
    let is : outcome answer left ≡ ended room why = shown.state ∙ ap settled (run_ended events room why) in
    shows (is ∙ sym (ap settled (run_ended others room why))) (no_place answer left room why is behind)

-- what is shown at the place of a walk is shown at any that it says is its place: where it has ended no event does anything
anywhere : (over : Option Refusal) (state : State) (at place : ℕ) (room : List ℕ) (answer : Printed) (left : List ℕ) (events : ℕ → Events) (end : ℕ → ℕ)
    → place_of (or_refused over (Ok (state, at))) place ≡ place
    → Shown answer left (events at) (outcome (or_refused over (Ok (state, at))) room) (end at)
    → Shown answer left (events place) (outcome (or_refused over (Ok (state, at))) room) (end place)
anywhere None state at place room answer left events end here shown = rw (← here) shown
anywhere (Some why) state at place room answer left events end here shown = over_shown (Some why) state at room refl shown

-- one printer, and what goes on from it
infixr 50 ◌onward◌
pub ◌onward◌ : {before between after : Printer} {first next : Page → ℕ → Events} {end behind : Page → ℕ → ℕ}
    → Goes before between first end → Goes between after next behind
    → Goes before after (λ page at. first page at ▹ next page (end page at)) (λ page at. behind page (end page at))
◌onward◌ {before} {between} {after} {first} {next} {end} {behind} one other =
    let from : Shown (answer_of after) after.room.now (next (page_of before) between.at) (run_of between) (behind (page_of before) between.at)
    = subst (λ (page : Page). Shown (answer_of after) after.room.now (next page between.at) (run_of between) (behind page between.at)) one.page other.shown in
    record {
      page = other.page ∙ one.page;
      room = other.room ∙ one.room;
      shown = one.shown thence
          anywhere between.ended (state_of between) between.at (end (page_of before) before.at) between.room.now _ _ (next (page_of before)) (behind (page_of before))
          one.shown.next from;
    }

-- what goes on with events and an end goes on with others that are the same there
pub there : {before after : Printer} {events others : Page → ℕ → Events} {end behind : Page → ℕ → ℕ} → Goes before after events end
    → events (page_of before) before.at ≡ others (page_of before) before.at → end (page_of before) before.at ≡ behind (page_of before) before.at
    → Goes before after others behind
there goes same placed = record { page = goes.page; room = goes.room; shown = rw (← same, ← placed) goes.shown }

-- where it has ended nothing more is done
stays_over : (over : Option Refusal) (state : State) (at : ℕ) (room : List ℕ) (events : Events) (end : ℕ) → is_some over ≡ true
    → Shown (or_refused over (Ok (state, at))) room events (outcome (or_refused over (Ok (state, at))) room) end
stays_over None state at room events end some = let z : ◌≡◌ {A = ℕ} 0 1 = cc in absurd (omega arith)
stays_over (Some why) state at room events end some = stays_refused {why = why} refl

pub has_ended : {before : Printer} {events : Page → ℕ → Events} {end : Page → ℕ → ℕ} → is_some before.ended ≡ true → Goes before before events end
has_ended {before} {events} {end} some = record {
  page = refl;
  room = refl;
  shown = stays_over before.ended (state_of before) before.at before.room.now (events (page_of before) before.at) (end (page_of before) before.at) some;
}

pub over_before : {before after : Printer} {events others : Page → ℕ → Events} {end behind : Page → ℕ → ℕ} → is_some before.ended ≡ true
    → Goes before after events end → Goes before after others behind
over_before {before} some goes = record {
  page = goes.page;
  room = goes.room;
  shown = over_shown before.ended (state_of before) before.at before.room.now some goes.shown;
}

-- and where it has not it goes on with what was done
pub not_over : (over : Option Refusal) (answer : Printed) → is_some over ≡ false → or_refused over answer ≡ answer
not_over None answer some = refl
not_over (Some why) answer some = let z : ◌≡◌ {A = ℕ} 0 1 = cc in absurd (omega arith)

pub goes_on : {before after : Printer} {events : Page → ℕ → Events} {end : Page → ℕ → ℕ} (state : State) → is_some before.ended ≡ false
    → page_of after ≡ page_of before → after.room.ghost_name ≡ before.room.ghost_name
    → Ran (events (page_of before) before.at) (going before.room.now (state_of before)) (going after.room.now state)
    → answer_of after ≡ finished state after.at → after.at ≡ end (page_of before) before.at → Goes before after events end
goes_on {before} {after} {events} {end} state some page room ran answered placed = record {
  page = page;
  room = room;
  shown = rw (not_over before.ended (Ok (state_of before, before.at)) some) (finish ran answered placed);
}

-- a step that needs no room is taken whether the walk has ended or not
step_shown : (over : Option Refusal) (answer : Printed) (state : State) (at place : ℕ) (room : List ℕ) (events : Events)
    → answer ≡ or_refused over (Ok (state, place))
    → (before : State) → state.full ≡ 0 → Ran events (going room before) (going room state)
    → Shown answer room events (outcome (or_refused over (Ok (before, at))) room) place
step_shown None answer state at place room events is before left ran = finish ran (rw (is, left)) refl
step_shown (Some why) answer state at place room events is before left ran = rw is (stays_refused {why = why} refl)

pub steps : {before after : Printer} {events : Page → ℕ → Events} {end : Page → ℕ → ℕ}
    → page_of after ≡ page_of before → after.room ≡ before.room → after.ended ≡ before.ended
    → Ran (events (page_of before) before.at) (going before.room.now (state_of before)) (going before.room.now (state_of after))
    → after.at ≡ end (page_of before) before.at → Goes before after events end
steps {before} {after} {events} {end} page room over ran placed = record {
  page = page;
  room = rw room;
  shown = rw (room, ← placed)
      (step_shown before.ended (answer_of after) (state_of after) before.at after.at before.room.now (events (page_of before) before.at)
      (rw over) (state_of before) refl ran);
}

-- a walk that ends at a push is refusal 8, of a length that is not 0
pub full_there : {before after : Printer} {events : Page → ℕ → Events} {end : Page → ℕ → ℕ} {needed : ℕ} {state : State} → is_some before.ended ≡ false
    → page_of after ≡ page_of before → after.room.ghost_name ≡ before.room.ghost_name
    → Ran (events (page_of before) before.at) (going before.room.now (state_of before)) (going after.room.now state)
    → state.full ≡ needed → (needed ≡ 0 → ⊥) → after.ended ≡ Some (record { reason = WorkRoom; place = needed })
    → Goes before after events end
full_there {before} {after} {events} {end} {needed} {state} some page room ran is full over = record {
  page = page;
  room = room;
  shown = rw (not_over before.ended (Ok (state_of before, before.at)) some)
      (finish {at = end (page_of before) before.at} ran (rw (over, is, ne_eqb needed 0 full)) refl);
}

-- what goes on with events goes on with others that run alike there
pub runs_alike : {before after : Printer} {events others : Page → ℕ → Events} {end : Page → ℕ → ℕ} → Goes before after events end
    → ((x : Run) → run (events (page_of before) before.at) x ≡ run (others (page_of before) before.at) x) → Goes before after others end
runs_alike goes same = record { page = goes.page; room = goes.room; shown = alike same goes.shown }

-- and with another end that is the same there
pub ends_alike : {before after : Printer} {events others : Page → ℕ → Events} {end behind : Page → ℕ → ℕ} → Goes before after events end
    → ((x : Run) → run (events (page_of before) before.at) x ≡ run (others (page_of before) before.at) x)
    → end (page_of before) before.at ≡ behind (page_of before) before.at → Goes before after others behind
ends_alike goes same placed = record { page = goes.page; room = goes.room; shown = rw (← placed) (alike same goes.shown) }

-- a piece that is stored elsewhere is printed there, and the walk goes back
pub aside : {before moved printed after : Printer} {first events : Page → ℕ → Events} {end : Page → ℕ → ℕ} {place : ℕ} → Goes before moved first (λ page at. place)
    → Goes moved printed events end → Goes printed after (λ page at. nothing) (λ page at. before.at)
    → Goes before after (λ page at. first page at ▹ events page place) (λ page at. at)
unfolding run
aside {before} {first = first} {events} {place = place} away goes back =
    there (runs_alike {others = λ page at. first page at ▹ events page place} (away onward goes onward back) (λ x. refl)) refl refl

-- a reading that is refused ends the walk
pub stops : {before after : Printer} {events : Page → ℕ → Events} {end : Page → ℕ → ℕ} {why : Refusal} → is_some before.ended ≡ false
    → page_of after ≡ page_of before → after.room ≡ before.room → after.ended ≡ Some why
    → events (page_of before) before.at ≡ stop why → Goes before after events end
stops {before} {after} {events} {end} {why} some page room over is = record {
  page = page;
  room = rw room;
  shown = rw (not_over before.ended (Ok (state_of before, before.at)) some, room, over, is) (stopped_there refl);
}

-- behind a walk that has ended whatever comes is gone on with
pub over_then : {before after : Printer} {events next : Page → ℕ → Events} {end behind : Page → ℕ → ℕ} → Goes before after events end → is_some after.ended ≡ true
    → Goes before after (λ page at. events page at ▹ next page at) behind
over_then {before} {next = next} {behind = behind} goes over =
    there (goes onward has_ended {events = λ page at. next (page_of before) before.at} {end = λ page at. behind (page_of before) before.at} over) refl refl

-- so it is behind a reading that is refused
pub stops_first : {before after : Printer} {first next : Page → ℕ → Events} {end : Page → ℕ → ℕ} {why : Refusal} → is_some before.ended ≡ false
    → page_of after ≡ page_of before → after.room ≡ before.room → after.ended ≡ Some why
    → first (page_of before) before.at ≡ stop why → Goes before after (λ page at. first page at ▹ next page at) end
stops_first some page room over is = over_then (stops {end = λ page at. at} some page room over is) (rw over refl)

-- a run that has ended is of a walk that has
over_run : (over : Option Refusal) (state : State) (at : ℕ) (left room : List ℕ) (why : Refusal)
    → outcome (or_refused over (Ok (state, at))) left ≡ ended room why → is_some over ≡ true
over_run None state at left room why is = let z : ◌≡◌ {A = ℕ} 0 1 = cc in absurd (omega arith)
over_run (Some reason) state at left room why is = refl

-- a walk that met a refusal has ended, whatever else would meet it first, and whatever comes behind
pub stopped_by : {before after : Printer} {events first next : Page → ℕ → Events} {end behind : Page → ℕ → ℕ} (why : Refusal) → Goes before after events end
    → is_some before.ended ≡ false → events (page_of before) before.at ≡ stop why → first (page_of before) before.at ≡ stop why
    → Goes before after (λ page at. first page at ▹ next page at) behind
unfolding run
stopped_by {before} {after} {first = first} {end = end} why goes on is says =
    let held = rw (is, not_over before.ended (Ok (state_of before, before.at)) on) at goes.shown.state in
    over_then {events = first} {end = end} (there goes (is ∙ sym says) refl)
    (over_run after.ended (state_of after) after.at after.room.now before.room.now why held)

-- no step at all
pub stays : {printer : Printer} → Goes printer printer (λ page at. nothing) (λ page at. at)
unfolding run
stays = steps refl refl refl (record { ran = refl }) refl

-- what goes on on another page goes on here, where the context is put back behind it
pub on_page : {before after : Printer} {events : Page → ℕ → Events} {end : Page → ℕ → ℕ} (context : Context)
    → Goes (record before { context = context }) after events end
    → Goes before (record after { context = before.context })
    (λ page at. events (record { tree = page.tree; context = context }) at) (λ page at. end (record { tree = page.tree; context = context }) at)
on_page {before} {after} {events} {end} context goes = record {
  page = ap (λ (page : Page). record page { context = before.context }) goes.page;
  room = goes.room;
  shown = goes.shown;
}

-- the context stays
pub context_stays : {before after : Printer} {events : Page → ℕ → Events} {end : Page → ℕ → ℕ} → Goes before after events end → after.context ≡ before.context
context_stays goes = ap (λ (page : Page). page.context) goes.page

-- so does the tree
pub tree_stays : {before after : Printer} {events : Page → ℕ → Events} {end : Page → ℕ → ℕ} → Goes before after events end → after.tree.now ≡ before.tree.now
tree_stays goes = ap (λ (page : Page). page.tree) goes.page

-- and the room is what a run of the events leaves
pub room_left : {before after : Printer} {events : Page → ℕ → Events} {end : Page → ℕ → ℕ} → Goes before after events end
    → after.room.now ≡ room_of (settled (run (events (page_of before) before.at) (run_of before)))
room_left {after = after} goes = kept (answer_of after) ∙ ap room_of goes.shown.state
  where
    kept : (answer : Printed) → after.room.now ≡ room_of (outcome answer after.room.now)
    kept (Ok (state, at)) = refl
    kept (Err why) = refl
