-- Laws of a run of events, and of what a printer promises of one.
use mathlib.Core.Path.{◌≡◌, refl, sym, ap, ◌∙◌}
use mathlib.Core.List.{List}
use Prim.Native.Nat.{ℕ}
use lib.Dec.{eqb}
use Rattle.std.specs.Prelude.{Ok, Err}
use borrow.Author.Tests.{eq-eqb, ne_eqb, eqb-false}
use Rattle.answers.specs.declared.Refusal.{Refusal}
use Rattle.text.proofs.Choices.{by_test}
use Rattle.chunks.specs.declared.stored.ChunkType.{ChunkType}
use Rattle.printing.specs.Events.{Events, nothing, push, space, clear, trim, stop, ◌▹◌}
use Rattle.printing.specs.Running.{State, Run, going, ended, run, spaced, cleared, trimmed, no_room, settled}
use Rattle.printing.specs.Running.{Printed, finished, outcome, place_of, numbers_printed, numbers_run, Shown}
use Rattle.printing.specs.declared.Context.{Context}
use Rattle.printing.proofs.Pushing.{Pushed, full_not_pushed}

-- ---- runs

-- events one behind the other run one behind the other
pub run_then : (first next : Events) (before : Run) → run (first ▹ next) before ≡ run next (run first before)
unfolding run
run_then first next before = refl

-- where a run has ended no event does anything
pub run_ended : (events : Events) (room : List ℕ) (why : Refusal) → run events (ended room why) ≡ ended room why
unfolding run
run_ended nothing room why = refl
run_ended (push ty context text) room why = refl
run_ended space room why = refl
run_ended clear room why = refl
run_ended trim room why = refl
run_ended (stop reason) room why = refl
run_ended (first ▹ next) room why = ap (run next) (run_ended first room why) ∙ run_ended next room why

-- a run that keeps the room and the length that did not fit
record Kept (room : List ℕ) (state : State) (after : Run) : Type 0 where
  next : State
  ran : after ≡ going room next
  full : next.full ≡ state.full

-- on a full state every event keeps both
full_kept : (events : Events) (room : List ℕ) (state : State) → (state.full ≡ 0 → ⊥) → Kept room state (run events (going room state))
unfolding run
full_kept nothing room state full = record { next = state; ran = refl; full = refl }
full_kept (push ty context text) room state full =
    let same = full_not_pushed room state ty context text full in
    record { next = state; ran = rw (← same.0, ← same.1); full = refl }
full_kept space room state full = record { next = spaced state; ran = refl; full = refl }
full_kept clear room state full = record { next = cleared state; ran = refl; full = refl }
full_kept trim room state full = record { next = trimmed state; ran = refl; full = refl }
full_kept (stop why) room state full = record { next = state; ran = rw (ne_eqb _ _ full); full = refl }
full_kept (first ▹ next) room state full =
    let one = full_kept first room state full in
    let two = full_kept next room one.next (rw one.full full) in
    record { next = two.next; ran = ap (run next) one.ran ∙ two.ran; full = two.full ∙ one.full }

-- a full state is full at the end
settled_full : (room : List ℕ) (state : State) → (state.full ≡ 0 → ⊥) → settled (going room state) ≡ ended room (no_room state)
settled_full room state full = rw (ne_eqb _ _ full)

-- any other goes on
pub settled_left : (room : List ℕ) (state : State) → state.full ≡ 0 → settled (going room state) ≡ going room state
settled_left room state left = rw (eq-eqb _ _ left)

-- so a run on a full state is refusal 8 with the length that did not fit, whatever the events are
pub run_full : (events : Events) (room : List ℕ) (state : State) → (state.full ≡ 0 → ⊥) → settled (run events (going room state)) ≡ ended room (no_room state)
run_full events room state full =
    let kept = full_kept events room state full in
    ap settled kept.ran ∙ settled_full room kept.next (rw kept.full full) ∙ rw kept.full

-- and a state may be settled before a run too
pub run_settled : (events : Events) (before : Run) → settled (run events (settled before)) ≡ settled (run events before)
run_settled events (ended room why) = refl
run_settled events (going room state) =
    by_test (eqb state.full 0)
    (λ left. rw left)
    (λ full. rw full (ap settled (run_ended events room (no_room state)) ∙ sym (run_full events room state (eqb-false _ _ full))))

-- ---- what a printer went through

-- the events take one run to the other
pub record Ran (events : Events) (before after : Run) : Type 0 where
  pub ran : run events before ≡ after

-- a push
pub ran_push : {room after : List ℕ} {state next : State} {ty : ChunkType} {context : Context} {text : List ℕ}
    → Pushed room state ty context text next after → Ran (push ty context text) (going room state) (going after next)
unfolding run
ran_push done = record { ran = rw (done.0, done.1) }

-- ---- what a printer shows

-- an answer that says of the run and of the place what is so has its numbers too
run_numbers : (answer : Printed) (room : List ℕ) {after : Run} (end : ℕ) → outcome answer room ≡ after → place_of answer end ≡ end
    → numbers_printed answer ≡ numbers_run after end
run_numbers (Ok (state, at)) room end is placed = ap (λ (n : ℕ). (0, n)) placed ∙ ap (λ (x : Run). numbers_run x end) is
run_numbers (Err why) room end is placed = ap (λ (x : Run). numbers_run x end) is

pub shows : {answer : Printed} {room : List ℕ} {events : Events} {before : Run} {end : ℕ} → outcome answer room ≡ settled (run events before) → place_of answer end ≡ end
    → Shown answer room events before end
shows {answer} {room} {end = end} is placed = record { state = is; next = placed; numbers = run_numbers answer room end is placed }

-- what is shown of events and a place is shown of those that equal them
pub told : {answer : Printed} {room : List ℕ} {events others : Events} {before : Run} {end place : ℕ} → events ≡ others → end ≡ place
    → Shown answer room events before end → Shown answer room others before place
told named placed shown = rw (← named, ← placed) shown

-- a reading found a refusal
pub stopped_there : {room : List ℕ} {state : State} {why : Refusal} {end : ℕ} → state.full ≡ 0 → Shown (Err why) room (stop why) (going room state) end
unfolding run
stopped_there left = shows (rw (eq-eqb _ _ left)) refl

-- the answer at a record's end, where all its events have been run
pub finish : {answer : Printed} {room : List ℕ} {events : Events} {before : Run} {at end : ℕ} {state : State}
    → Ran events before (going room state) → answer ≡ finished state at → at ≡ end → Shown answer room events before end
finish {answer} {room} {events} {before} {at} {end} {state} all answered place =
    by_test (eqb state.full 0)
    (λ left.
    let same : answer ≡ Ok (state, at) = rw left at answered in
    shows (rw (same, all.ran, left)) (rw same place))
    (λ full.
    let same : answer ≡ Err (no_room state) = rw full at answered in
    shows (rw (same, all.ran, full)) (rw same))

-- ---- what goes on from an answer

-- an answer is shown, and what goes on from it
infixr 50 ◌thence◌
pub ◌thence◌ : {answer last : Printed} {room left : List ℕ} {first next : Events} {before : Run} {end behind : ℕ}
    → Shown answer room first before end → Shown last left next (outcome answer room) behind → Shown last left (first ▹ next) before behind
unfolding run
◌thence◌ {first = first} {next = next} {before = before} one other =
    shows (other.state ∙ ap (λ (x : Run). settled (run next x)) one.state ∙ run_settled next (run first before)) other.next

-- what is shown of events is shown of others that run alike
pub alike : {answer : Printed} {room : List ℕ} {events others : Events} {before : Run} {end : ℕ} → ((x : Run) → run events x ≡ run others x)
    → Shown answer room events before end → Shown answer room others before end
alike {before = before} same shown = shows (shown.state ∙ ap settled (same before)) shown.next

-- what was refused stays refused, whatever the events are and wherever they end
pub stays_refused : {answer : Printed} {room : List ℕ} {events : Events} {end : ℕ} {why : Refusal} → answer ≡ Err why
    → Shown answer room events (outcome answer room) end
stays_refused {room = room} {events} {why = why} is = rw is (shows (sym (ap settled (run_ended events room why))) refl)
