-- What the walk holds: the chunks, newest first, and whether a space is pending; or why it was refused.
use Rattle.std.specs.Prelude.{ℕ, ◌+◌, ◌≤◌, ◌≡◌, List, [], ◌∷◌, ◌++◌, map, reverse, Bool, true, false, cond, length, take, ltb}
use Rattle.answers.specs.declared.Refusal.{Refusal}
use Rattle.answers.specs.declared.Reason.TheVariants.{WorkRoom}
use Rattle.text.specs.Ink.{ink}
use Rattle.text.specs.Lines.{is_empty, is_newline}
use Rattle.chunks.specs.Stored.{Chunk, stored_chunk, stored_list}
use Rattle.chunks.specs.Appending.{with_space, capacity}
use Rattle.printing.specs.Events.{Events, nothing, push, space, clear, trim, stop, ◌▹◌}
use Rattle.printing.specs.Running.{State, Run, going, ended}

pub data Held : Type 0 where
  held : List Chunk → Bool → Held
  refused : Refusal → Held

-- the length of the chunks' stored form
unfoldable pub held_length : List Chunk → ℕ
held_length [] = 0
held_length (chunk ∷ chunks) = held_length chunks + length (stored_chunk chunk)

-- "At some push the chunks held, the new one included, need more than the work room ...; place is the length needed at that push."
abbrev pub hold_chunk : ℕ → List Chunk → Chunk → Held
hold_chunk room chunks chunk =
    cond (ltb (capacity room) (held_length chunks + length (stored_chunk chunk)))
    (refused (record { reason = WorkRoom; place = held_length chunks + length (stored_chunk chunk) }))
    (held (chunk ∷ chunks) false)

-- the newline chunks at the end dropped
unfoldable pub without_newlines : List Chunk → List Chunk
without_newlines [] = []
without_newlines (chunk ∷ chunks) = cond (is_newline chunk.text) (without_newlines chunks) (chunk ∷ chunks)

-- what goes on while nothing was refused
abbrev pub on_held : (List Chunk → Bool → Held) → Held → Held
on_held next (held chunks pending) = next chunks pending
on_held next (refused why) = refused why

-- "an empty text is no push and keeps the pending space; otherwise a pending space goes in front, even of a newline"
unfoldable pub hold : ℕ → Events → Held → Held
hold room nothing state = state
hold room (push ty context text) state =
    on_held (λ chunks pending. cond (is_empty text) (held chunks pending)
    (hold_chunk room chunks (record { ty = ty; indent = context.indent; text = with_space pending text }))) state
hold room space state = on_held (λ chunks pending. held chunks true) state
hold room clear state = on_held (λ chunks pending. held chunks false) state
hold room trim state = on_held (λ chunks pending. held (without_newlines chunks) pending) state
hold room (stop why) state = on_held (λ chunks pending. refused why) state
hold room (first ▹ next) state = hold room next (hold room first state)

-- ---- what is promised of it

-- each text that is pushed has a stored form, with a pending space in front too
unfoldable pub Storable : Events → Type 0
Storable nothing = Unit
Storable (push ty context text) = (context.indent ≤ 4096) × (length text ≤ 65534)
Storable space = Unit
Storable clear = Unit
Storable trim = Unit
Storable (stop why) = Unit
Storable (first ▹ next) = Storable first × Storable next

-- the room and the state of a run hold the chunks: what is used is their stored form, oldest first
pub record Holds (room : List ℕ) (state : State) (chunks : List Chunk) (pending : Bool) : Type 0 where
  pub used : state.used ≡ held_length chunks
  pub fits : state.used ≤ capacity (length room)
  pub stored : take state.used room ≡ stored_list (reverse chunks)
  pub solid : state.solid ≡ held_length (without_newlines chunks)
  pub flag : state.spaced ≡ pending
  pub full : state.full ≡ 0

-- a run in a room of so many bytes agrees with what is held: it goes on and holds the chunks, or has ended for the same refusal
abbrev pub Same : ℕ → Run → Held → Type 0
Same size (going room state) (held chunks pending) = (length room ≡ size) × Holds room state chunks pending
Same size (going room state) (refused why) = ⊥
Same size (ended room why) (held chunks pending) = ⊥
Same size (ended room why) (refused reason) = (length room ≡ size) × (why ≡ reason)

-- the texts of what is held, oldest first
abbrev pub held_texts : List Chunk → List (List ℕ)
held_texts chunks = map (λ (chunk : Chunk). chunk.text) (reverse chunks)

-- the ink of what is pushed, in order
unfoldable pub ink_of : Events → List ℕ
ink_of nothing = []
ink_of (push ty context text) = ink text
ink_of space = []
ink_of clear = []
ink_of trim = []
ink_of (stop why) = []
ink_of (first ▹ next) = ink_of first ++ ink_of next
