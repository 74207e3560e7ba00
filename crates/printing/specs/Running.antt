-- The same events on the work room and the walk's state, byte by byte.
use Rattle.std.specs.Prelude.{ℕ, ◌≡◌, List, Bool, true, false, cond, not, ◌||◌, length, eqb, Result, Ok, Err}
use Rattle.answers.specs.Numbers.{numbers_of}
use Rattle.answers.specs.declared.Refusal.{Refusal}
use Rattle.answers.specs.declared.Reason.TheVariants.{WorkRoom}
use Rattle.text.specs.Lines.{is_empty, is_newline}
use Rattle.chunks.specs.Stored.{Chunk}
use Rattle.chunks.specs.Appending.{with_space, appended, room_after}
use Rattle.chunks.specs.declared.append.Unappended.{Unappended}
use Rattle.chunks.specs.declared.append.Unappended.TheVariants.{NoRoom, NoChunk, UsedPastRoom}
use Rattle.chunks.specs.declared.stored.ChunkType.{ChunkType}
use Rattle.printing.specs.Events.{Events, nothing, push, space, clear, trim, stop, ◌▹◌}
use Rattle.printing.specs.declared.Context.{Context}

-- What changes while the walk goes on: the used length of the work room, the end of the last chunk that is not exactly a newline, whether a space goes before
-- the next text, and the length that did not fit (0 while all did).
pub record State : Type 0 where
  pub used : ℕ
  pub solid : ℕ
  pub spaced : Bool
  pub full : ℕ

-- the state that every walk starts with
abbrev pub at_start : State
at_start = record { used = 0; solid = 0; spaced = false; full = 0 }

-- ---- what each event does to a state that is not full

abbrev pub spaced : State → State
spaced state = record { used = state.used; solid = state.solid; spaced = true; full = state.full }

abbrev pub cleared : State → State
cleared state = record { used = state.used; solid = state.solid; spaced = false; full = state.full }

-- the newline chunks at the end are dropped: what is used ends where the last other chunk does
abbrev pub trimmed : State → State
trimmed state = record { used = state.solid; solid = state.solid; spaced = state.spaced; full = state.full }

-- the chunk that a push makes
abbrev pub chunk_with : State → ChunkType → Context → List ℕ → Chunk
chunk_with state ty context text = record { ty = ty; indent = context.indent; text = with_space state.spaced text }

-- the state behind a chunk that ends at `end`; a newline chunk leaves the solid end where it was
abbrev pub grown : State → ℕ → Bool → State
grown state end newline = record { used = end; solid = cond newline state.solid end; spaced = false; full = 0 }

-- a state that is full: a push does nothing to it any more
abbrev pub filled : State → ℕ → State
filled state needed = record { used = state.used; solid = state.solid; spaced = state.spaced; full = needed }

-- What a state remembers that was lent a chunk without a stored form, or that says that more is used than the room has: one more byte than any room counts.
-- It is no place of document 01. No tree pushes such a chunk (`file_storable`, events) and no walk comes to such a state (`Holds`, Holding), so `chunks` and
-- `format` never give it: what they refuse with 8 is said by `hold` (Holding), which does not know it. Only a caller who pushes by hand can meet it.
abbrev pub unstorable : ℕ
unstorable = 1048577

-- the state behind an appended chunk, exactly a newline or not
abbrev pub behind : State → Bool → Result ℕ Unappended → State
behind state newline (Ok end) = grown state end newline
behind state newline (Err (NoRoom needed)) = filled state needed
behind state newline (Err NoChunk) = filled state unstorable
behind state newline (Err UsedPastRoom) = filled state unstorable

-- "an empty text is no push and keeps the pending space"; on a full state nothing is pushed
abbrev pub no_push : State → List ℕ → Bool
no_push state text = not (eqb state.full 0) || is_empty text

unfoldable pub pushed : ℕ → State → ChunkType → Context → List ℕ → State
pushed room state ty context text =
    cond (no_push state text) state
    (behind state (is_newline (with_space state.spaced text)) (appended room state.used (chunk_with state ty context text)))

unfoldable pub pushed_room : List ℕ → State → ChunkType → Context → List ℕ → List ℕ
pushed_room room state ty context text = cond (no_push state text) room (room_after room state.used (chunk_with state ty context text))

-- ---- a run of events

pub data Run : Type 0 where
  going : List ℕ → State → Run
  ended : List ℕ → Refusal → Run

-- what goes on while no refusal was met
abbrev pub on_going : (List ℕ → State → Run) → Run → Run
on_going next (going room state) = next room state
on_going next (ended room why) = ended room why

-- a reading's refusal is not met where the state is full
abbrev pub stopped : Refusal → List ℕ → State → Run
stopped why room state = cond (eqb state.full 0) (ended room why) (going room state)

unfoldable pub run : Events → Run → Run
run nothing x = x
run (push ty context text) x = on_going (λ room state. going (pushed_room room state ty context text) (pushed (length room) state ty context text)) x
run space x = on_going (λ room state. going room (spaced state)) x
run clear x = on_going (λ room state. going room (cleared state)) x
run trim x = on_going (λ room state. going room (trimmed state)) x
run (stop why) x = on_going (stopped why) x
run (first ▹ next) x = run next (run first x)

-- ---- what a printer of a record promises

-- refusal 8: "place is the length needed at that push"
abbrev pub no_room : State → Refusal
no_room state = record { reason = WorkRoom; place = state.full }

-- where it is judged: a full state is refusal 8
abbrev pub settled : Run → Run
settled (going room state) = cond (eqb state.full 0) (going room state) (ended room (no_room state))
settled (ended room why) = ended room why

-- an answer: the state and the place behind the record, or why the walk ended
abbrev pub Printed : Type 0
Printed = Result (State × ℕ) Refusal

-- the answer there
abbrev pub finished : State → ℕ → Printed
finished state end = cond (eqb state.full 0) (Ok (state, end)) (Err (no_room state))

-- the room that a run leaves
abbrev pub room_of : Run → List ℕ
room_of (going room state) = room
room_of (ended room why) = room

-- in document 01's numbers: 0 with the place behind the record, or a refusal's number and place; of an answer, and of a run
abbrev pub numbers_printed : Printed → ℕ × ℕ
numbers_printed (Ok (state, at)) = (0, at)
numbers_printed (Err why) = numbers_of why

abbrev pub numbers_run : Run → ℕ → ℕ × ℕ
numbers_run (going room state) end = (0, end)
numbers_run (ended room why) end = numbers_of why

-- what an answer says of the run, and of the place behind the record
abbrev pub outcome : Printed → List ℕ → Run
outcome (Ok (state, at)) room = going room state
outcome (Err why) room = ended room why

abbrev pub place_of : Printed → ℕ → ℕ
place_of (Ok (state, at)) end = at
place_of (Err why) end = end

-- an answer and the room are what a run of the events leaves, and the place behind the record is `end`
pub record Shown (answer : Printed) (room : List ℕ) (events : Events) (before : Run) (end : ℕ) : Type 0 where
  pub state : outcome answer room ≡ settled (run events before)
  pub next : place_of answer end ≡ end
  pub numbers : numbers_printed answer ≡ numbers_run (settled (run events before)) end
