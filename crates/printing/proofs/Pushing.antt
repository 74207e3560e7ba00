-- Laws of one push: a text behind a pending space and before a colon, and the state and the room then.
use Rattle.std.specs.Prelude.{Result}
use mathlib.Core.Path.{◌≡◌, refl}
use mathlib.Core.List.{List, [], ◌∷◌}
use mathlib.Core.Bool.{Bool, true, false}
use Prim.Native.Nat.{ℕ}
use native.Mathlib.Omega.{arith}
use lib.ListN.{length, get_or}
use lib.Dec.{eqb}
use borrow.Author.Tests.{eq-eqb, ne_eqb}
use Rattle.text.specs.Lines.{is_empty, is_newline}
use Rattle.chunks.specs.Appending.{with_space, with_colon, appended, room_after}
use Rattle.chunks.specs.declared.append.Unappended.{Unappended}
use Rattle.chunks.specs.declared.stored.ChunkType.{ChunkType}
use Rattle.printing.specs.Running.{State, chunk_with, behind, pushed, pushed_room}
use Rattle.printing.specs.declared.Context.{Context}

-- ---- texts

-- a text of one byte is a newline just where its byte is
pub newline_one : (text : List ℕ) → length text ≡ 1 → eqb (get_or text 0 0) 10 ≡ is_newline text
unfolding is_newline
newline_one [] one = absurd (omega arith)
newline_one (b ∷ []) one = refl
newline_one (b ∷ c ∷ text) one = absurd (omega arith)

-- any other is none
pub newline_other : (text : List ℕ) → (length text ≡ 1 → ⊥) → false ≡ is_newline text
unfolding is_newline
newline_other [] other = refl
newline_other (b ∷ []) other = absurd (other refl)
newline_other (b ∷ c ∷ text) other = refl

-- nor is a text behind a space
pub newline_spaced : (text : List ℕ) → false ≡ is_newline (32 ∷ text)
unfolding is_newline
newline_spaced [] = refl
newline_spaced (b ∷ text) = refl

-- nor is one before a colon
pub newline_colon : (text : List ℕ) → false ≡ is_newline (with_colon true text)
unfolding is_newline
newline_colon [] = refl
newline_colon (b ∷ []) = refl
newline_colon (b ∷ c ∷ text) = refl

-- ---- the state and the room behind a push

-- the state and the room are those behind a push of a text
abbrev pub Pushed : List ℕ → State → ChunkType → Context → List ℕ → State → List ℕ → Type 0
Pushed room state ty context text next after = (next ≡ pushed (length room) state ty context text) × (after ≡ pushed_room room state ty context text)

module _ (room : List ℕ) (state : State) (ty : ChunkType) (context : Context) (text : List ℕ) where
  -- on a full state nothing is pushed
  pub full_not_pushed : (state.full ≡ 0 → ⊥) → Pushed room state ty context text state room
  unfolding pushed pushed_room
  full_not_pushed full = (rw (ne_eqb _ _ full), rw (ne_eqb _ _ full))

  -- nor is an empty text
  pub empty_not_pushed : state.full ≡ 0 → is_empty text ≡ true → Pushed room state ty context text state room
  unfolding pushed pushed_room
  empty_not_pushed room_left empty = (rw (eq-eqb _ _ room_left, empty), rw (eq-eqb _ _ room_left, empty))

  -- elsewhere a chunk is appended
  pub is_pushed : {newline : Bool} {answer : Result ℕ Unappended} {next : State} {after : List ℕ}
      → state.full ≡ 0 → is_empty text ≡ false → newline ≡ is_newline (with_space state.spaced text)
      → answer ≡ appended (length room) state.used (chunk_with state ty context text) → after ≡ room_after room state.used (chunk_with state ty context text)
      → next ≡ behind state newline answer → Pushed room state ty context text next after
  unfolding pushed pushed_room
  is_pushed room_left some lone answered stored moved =
      (rw (moved, answered, lone, eq-eqb _ _ room_left, some), rw (stored, eq-eqb _ _ room_left, some))
