-- A run of events in a room and the same events on the chunks held agree.
use mathlib.Core.Path.{◌≡◌, refl, sym, ap, ◌∙◌}
use mathlib.Core.List.{List, [], ◌∷◌, ◌++◌, reverse, reverse-cons, append_assoc, append-nil}
use mathlib.Core.Bool.{Bool, true, false}
use Prim.Native.Nat.{ℕ, ◌+◌, ◌≤◌, ◌<◌}
use native.Mathlib.Omega.{arith}
use lib.ListN.{length, take, drop, length-append}
use lib.Seq.{sets, sets-eq, length-sets, take_at, take-take}
use lib.Dec.{ltb}
use borrow.Author.Tests.{eq-eqb, ne_eqb, ltb-true, ltb-false}
use Rattle.answers.specs.declared.Refusal.{Refusal}
use Rattle.text.specs.Lines.{is_empty, is_newline}
use Rattle.text.proofs.Choices.{by_test, true_false, cond_both}
use Rattle.chunks.specs.Stored.{Chunk, stored_chunk, stored_list, WellFormed}
use Rattle.chunks.specs.Appending.{with_space, capacity}
use Rattle.chunks.specs.declared.stored.ChunkType.{ChunkType}
use Rattle.chunks.proofs.Storing.{append_no_room, append_stored}
use Rattle.printing.specs.Events.{Events, nothing, push, space, clear, trim, stop, ◌▹◌}
use Rattle.printing.specs.Running.{State, Run, going, ended, run, settled, at_start, chunk_with, grown, filled, trimmed, no_room}
use Rattle.printing.specs.Holding.{Held, held, refused, held_length, without_newlines, hold, Storable, Holds, Same}
use Rattle.printing.specs.declared.Context.{Context}
use Rattle.printing.proofs.Pushing.{empty_not_pushed, is_pushed}
use Rattle.printing.proofs.Running.{run_ended, settled_left, run_settled}

-- ---- the stored form of what is held

-- chunks end to end are stored end to end
stored_append : (chunks others : List Chunk) → stored_list (chunks ++ others) ≡ stored_list chunks ++ stored_list others
unfolding stored_list
stored_append [] others = refl
stored_append (chunk ∷ chunks) others = rw (stored_append chunks others) (sym (append_assoc (stored_chunk chunk) (stored_list chunks) (stored_list others)))

-- the newest chunk is stored last
stored_newest : (chunk : Chunk) (chunks : List Chunk) → stored_list (reverse (chunk ∷ chunks)) ≡ stored_list (reverse chunks) ++ stored_chunk chunk
unfolding stored_list
stored_newest chunk chunks =
    ap stored_list (reverse-cons chunk chunks) ∙ stored_append (reverse chunks) (chunk ∷ [])
    ∙ ap (λ (l : List ℕ). stored_list (reverse chunks) ++ l) (append-nil (stored_chunk chunk))

-- the length held is the stored form's
held_length_lem : (chunks : List Chunk) → held_length chunks ≡ length (stored_list (reverse chunks))
unfolding held_length stored_list
held_length_lem [] = refl
held_length_lem (chunk ∷ chunks) =
    rw (held_length_lem chunks) (sym (ap length (stored_newest chunk chunks) ∙ length-append (stored_list (reverse chunks)) (stored_chunk chunk)))

-- what is left without the newlines at the end is stored in front
without_front : (chunks : List Chunk) → (rest : List ℕ) × (stored_list (reverse chunks) ≡ stored_list (reverse (without_newlines chunks)) ++ rest)
unfolding without_newlines stored_list
without_front [] = ([], refl)
without_front (chunk ∷ chunks) =
    let front = without_front chunks in
    cond_both (λ (left : List Chunk). (rest : List ℕ) × (stored_list (reverse (chunk ∷ chunks)) ≡ stored_list (reverse left) ++ rest))
    (is_newline chunk.text) (without_newlines chunks) (chunk ∷ chunks)
    (λ newline. (
      front.0 ++ stored_chunk chunk,
      stored_newest chunk chunks ∙ ap (λ (l : List ℕ). l ++ stored_chunk chunk) front.1
          ∙ append_assoc (stored_list (reverse (without_newlines chunks))) front.0 (stored_chunk chunk),
    ))
    (λ other. ([], sym (append-nil (stored_list (reverse (chunk ∷ chunks))))))

-- and has no more of them at its end
without_twice : (chunks : List Chunk) → without_newlines (without_newlines chunks) ≡ without_newlines chunks
unfolding without_newlines
without_twice [] = refl
without_twice (chunk ∷ chunks) = by_test (is_newline chunk.text) (λ newline. rw newline (without_twice chunks)) (λ other. rw (other, other))

-- ---- one event

-- a text that is pushed has a stored form
push_stored : (pending : Bool) (ty : ChunkType) (indent : ℕ) (text : List ℕ) → indent ≤ 4096 → length text ≤ 65534 → is_empty text ≡ false
    → WellFormed (record { ty = ty; indent = indent; text = with_space pending text })
push_stored pending ty indent [] low short some = true_false some
push_stored true ty indent (b ∷ text) low short some = record { indent = low; some = omega arith; short = omega arith }
push_stored false ty indent (b ∷ text) low short some = record { indent = low; some = omega arith; short = omega arith }

-- at the start nothing is held
pub holds_nothing : (room : List ℕ) → Holds room at_start [] false
unfolding held_length without_newlines stored_list
holds_nothing room = record { used = refl; fits = omega arith; stored = refl; solid = refl; flag = refl; full = refl }

module _ {room : List ℕ} {state : State} {chunks : List Chunk} {pending : Bool} (holds : Holds room state chunks pending) where
  -- without the newlines at the end
  holds_trimmed : Holds room (trimmed state) (without_newlines chunks) pending
  holds_trimmed =
      let front = without_front chunks in
      let less : state.solid ≤ state.used =
      omega (
        arith,
        holds.used,
        holds.solid,
        held_length_lem chunks,
        held_length_lem (without_newlines chunks),
        ap length front.1,
        length-append (stored_list (reverse (without_newlines chunks))) front.0,
      ) in
      record {
        used = holds.solid;
        fits = omega (arith, holds.fits);
        stored = sym (take-take state.solid state.used room less) ∙ ap (take state.solid) (holds.stored ∙ front.1)
            ∙ take_at (stored_list (reverse (without_newlines chunks))) front.0 state.solid (sym (holds.solid ∙ held_length_lem (without_newlines chunks)));
        solid = holds.solid ∙ ap held_length (sym (without_twice chunks));
        flag = holds.flag;
        full = holds.full;
      }

  module _ (chunk : Chunk) where
    -- with a chunk more, which fits
    holds_grown : state.used + length (stored_chunk chunk) ≤ capacity (length room)
        → Holds (sets room state.used (stored_chunk chunk)) (grown state (state.used + length (stored_chunk chunk)) (is_newline chunk.text)) (chunk ∷ chunks) false
    unfolding held_length without_newlines
    holds_grown fits =
        let bytes = stored_chunk chunk in
        let end = state.used + length bytes in
        let long = length-sets room state.used bytes in
        let used : end ≡ held_length (chunk ∷ chunks) = rw holds.used in
        let whole : sets room state.used bytes ≡ stored_list (reverse (chunk ∷ chunks)) ++ drop end room =
        sets-eq bytes room state.used (omega arith) ∙ rw (holds.stored, stored_newest chunk chunks) in
        record {
          used = used;
          fits = rw long fits;
          stored = ap (take end) whole ∙ take_at (stored_list (reverse (chunk ∷ chunks))) (drop end room) end (sym (used ∙ held_length_lem (chunk ∷ chunks)));
          solid = by_test (is_newline chunk.text) (λ newline. rw newline holds.solid) (λ other. rw other used);
          flag = refl;
          full = refl;
        }

    -- with a chunk that does not fit
    settled_filled : capacity (length room) < state.used + length (stored_chunk chunk)
        → settled (going room (filled state (state.used + length (stored_chunk chunk)))) ≡ ended room (no_room (filled state (state.used + length (stored_chunk chunk))))
    settled_filled full = rw (ne_eqb _ 0 (λ (none : state.used + length (stored_chunk chunk) ≡ 0). omega arith))

  -- a push
  push_same : (ty : ChunkType) (context : Context) (text : List ℕ) → context.indent ≤ 4096 → length text ≤ 65534
      → Same (length room) (settled (run (push ty context text) (going room state))) (hold (length room) (push ty context text) (held chunks pending))
  unfolding run hold
  push_same ty context text low short =
      by_test (is_empty text)
      (λ empty.
      let same = empty_not_pushed room state ty context text holds.full empty in
      rw (← same.0, ← same.1, empty, settled_left room state holds.full) (refl, holds))
      (λ some.
      let chunk = chunk_with state ty context text in
      let end = state.used + length (stored_chunk chunk) in
      let good : WellFormed chunk = push_stored state.spaced ty context.indent text low short some in
      by_test (ltb (capacity (length room)) end)
      (λ full.
      let over = ltb-true _ _ full in
      let told = append_no_room room state.used chunk good holds.fits refl over in
      let same = is_pushed room state ty context text holds.full some refl told.0 told.1 refl in
      rw (← same.0, ← same.1, some, ← holds.flag, ← holds.used, full, settled_filled chunk over) (refl, refl))
      (λ fits.
      let inside = ltb-false _ _ fits in
      let told = append_stored room state.used chunk good holds.fits refl inside refl in
      let same = is_pushed room state ty context text holds.full some refl told.0 told.1 refl in
      rw (← same.0, ← same.1, some, ← holds.flag, ← holds.used, fits) (length-sets room state.used (stored_chunk chunk), holds_grown chunk inside)))

-- ---- a run of events

-- where a walk was refused no event does anything
hold_refused : (size : ℕ) (events : Events) (why : Refusal) → hold size events (refused why) ≡ refused why
unfolding hold
hold_refused size nothing why = refl
hold_refused size (push ty context text) why = refl
hold_refused size space why = refl
hold_refused size clear why = refl
hold_refused size trim why = refl
hold_refused size (stop reason) why = refl
hold_refused size (first ▹ next) why = ap (hold size next) (hold_refused size first why) ∙ hold_refused size next why

-- the events agree, from wherever chunks are held
abbrev Agreeing : ℕ → Events → Type 0
Agreeing size events = (room : List ℕ) (state : State) (chunks : List Chunk) (pending : Bool) → length room ≡ size → Holds room state chunks pending
    → Same size (settled (run events (going room state))) (hold size events (held chunks pending))

-- so they agree from wherever the two do
agree_on : (size : ℕ) (events : Events) → Agreeing size events → (before : Run) (state : Held) → Same size before state
    → Same size (settled (run events before)) (hold size events state)
agree_on size events agreeing (going room state) (held chunks pending) same = agreeing room state chunks pending same.0 same.1
agree_on size events agreeing (going room state) (refused why) same = absurd same
agree_on size events agreeing (ended room why) (held chunks pending) same = absurd same
agree_on size events agreeing (ended room why) (refused reason) same = rw (run_ended events room why, hold_refused size events reason) same

-- events whose texts have a stored form agree
agree : (size : ℕ) (events : Events) → Storable events → Agreeing size events
unfolding run hold Storable
agree size nothing fine room state chunks pending long holds = rw (settled_left room state holds.full) (long, holds)
agree size (push ty context text) fine room state chunks pending long holds = rw (← long) (push_same holds ty context text fine.0 fine.1)
agree size space fine room state chunks pending long holds =
    rw (eq-eqb _ _ holds.full) (long, record { used = holds.used; fits = holds.fits; stored = holds.stored; solid = holds.solid; flag = refl; full = holds.full })
agree size clear fine room state chunks pending long holds =
    rw (eq-eqb _ _ holds.full) (long, record { used = holds.used; fits = holds.fits; stored = holds.stored; solid = holds.solid; flag = refl; full = holds.full })
agree size trim fine room state chunks pending long holds = rw (eq-eqb _ _ holds.full) (long, holds_trimmed holds)
agree size (stop why) fine room state chunks pending long holds = rw (eq-eqb _ _ holds.full) (long, refl)
agree size (first ▹ next) fine room state chunks pending long holds =
    rw (← (run_settled next (run first (going room state))))
    (agree_on size next (agree size next fine.1) (settled (run first (going room state))) (hold size first (held chunks pending)) (agree size first fine.0 room state chunks pending long holds))

-- the closing theorem: a run in a room that holds chunks agrees with the same events on these chunks
pub same : (events : Events) → Storable events → {room : List ℕ} {state : State} {chunks : List Chunk} {pending : Bool} → Holds room state chunks pending
    → Same (length room) (settled (run events (going room state))) (hold (length room) events (held chunks pending))
same events fine {room} {state} {chunks} {pending} holds = agree (length room) events fine room state chunks pending refl holds
