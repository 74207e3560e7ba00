-- One push of a walk: the chunk, and where it does not fit the length that is needed.
use mathlib.Core.Path.{◌≡◌, refl}
use mathlib.Core.List.{List, []}
use mathlib.Core.Bool.{Bool, true, false}
use Prim.Native.Nat.{ℕ, ◌+◌}
use native.Mathlib.Omega.{arith}
use lib.ListN.{length}
use lib.Dec.{ltb, eqb}
use borrow.Author.Tests.{ltb-true, eqb-true, eqb-false}
use Rattle.std.specs.Prelude.{Result, Err}
use Rattle.text.specs.Lines.{is_empty, is_newline}
use Rattle.text.proofs.Choices.{by_test}
use Rattle.chunks.specs.Stored.{Chunk, stored_chunk}
use Rattle.chunks.specs.Appending.{with_space, unstorable, capacity, appended, room_after}
use Rattle.chunks.specs.declared.append.Unappended.{Unappended}
use Rattle.chunks.specs.declared.append.Unappended.TheVariants.{NoRoom, NoChunk, UsedPastRoom}
use Rattle.chunks.specs.declared.stored.ChunkType.{ChunkType}
use Rattle.printing.specs.Events.{push}
use Rattle.printing.specs.Running.{State, at_start, going, behind}
use Rattle.printing.proofs.Pushing.{full_not_pushed, empty_not_pushed, is_pushed}
use Rattle.printing.proofs.Running.{Ran, ran_push}
use Rattle.printers.specs.declared.Printer.{Printer}
use Rattle.events.specs.Trees.{word}
use Rattle.printers.specs.Going.{Page, page_of, state_of, held_of, GoesExact}
use Rattle.printers.proofs.Going.{steps}

-- the length that a chunk which was not appended needs, whatever stood before it
pub needs : (state : State) (newline : Bool) (why : Unappended) → (behind state newline (Err why)).full ≡ (behind at_start false (Err why)).full
needs state newline (NoRoom needed) = refl
needs state newline NoChunk = refl
needs state newline UsedPastRoom = refl

-- it is some length
pub needs_some : (room used : ℕ) (chunk : Chunk) (why : Unappended) → Err why ≡ appended room used chunk → (behind at_start false (Err why)).full ≡ 0 → ⊥
unfolding appended
needs_some room used chunk NoChunk is none = let z : ◌≡◌ {A = ℕ} 1048577 0 = none in absurd (omega arith)
needs_some room used chunk UsedPastRoom is none = let z : ◌≡◌ {A = ℕ} 1048577 0 = none in absurd (omega arith)
needs_some room used chunk (NoRoom needed) is none =
    by_test (unstorable chunk)
    (λ odd. let other : Err (NoRoom needed) ≡ Err NoChunk = rw odd at is in cc)
    (λ fine. by_test (ltb (capacity room) used)
    (λ past. let other : Err (NoRoom needed) ≡ Err UsedPastRoom = rw (fine, past) at is in cc)
    (λ within. by_test (ltb (capacity room) (used + length (stored_chunk chunk)))
    (λ full.
    let same : Err (NoRoom needed) ≡ Err (NoRoom (used + length (stored_chunk chunk))) = rw (fine, within, full) at is in
    let one : needed ≡ used + length (stored_chunk chunk) = cc in
    let more = ltb-true _ _ full in
    omega arith)
    (λ fits. cc)))

module _ (before : Printer) (ty : ChunkType) (text : List ℕ) where
  -- the chunk that a push makes
  abbrev pub chunk_of : Chunk
  chunk_of = record { ty = ty; indent = before.context.indent; text = with_space before.spaced text }

  -- what appending it answers is what the push does
  pub push_ran : {newline : Bool} {answer : Result ℕ Unappended} {next : State} {after : List ℕ}
      → is_empty text ≡ false → newline ≡ is_newline (with_space before.spaced text)
      → answer ≡ appended (length before.room.now) before.used chunk_of → after ≡ room_after before.room.now before.used chunk_of
      → next ≡ behind (state_of before) newline answer
      → Ran (push ty before.context text) (going before.room.now (state_of before)) (going after next)
  push_ran some lone answered stored moved =
      ran_push (is_pushed before.room.now (state_of before) ty before.context text refl some lone answered stored moved)

-- an empty text is no push
pub empty_pushed : {printer : Printer} {ty : ChunkType} {text : Page → List ℕ} → is_empty (text (page_of printer)) ≡ true
    → GoesExact printer printer (λ page at. push ty page.context (text page)) (λ page at. at)
empty_pushed {printer} {ty} {text} empty =
    let page = page_of printer in
    let room = printer.room.now in
    let held = held_of printer in
    record {
      goes = steps refl refl refl (ran_push (empty_not_pushed room (state_of printer) ty page.context (text page) refl empty)) refl;
      keeps = record {
        state = λ by_room.
            by_test (eqb held.full 0)
            (λ left. (ran_push (empty_not_pushed room held ty page.context (text page) (eqb-true _ _ left) empty)).ran)
            (λ full. (ran_push (full_not_pushed room held ty page.context (text page) (eqb-false _ _ full))).ran);
        by_room = λ by_room. by_room;
        place = refl;
      };
    }

-- nor is one of no bytes
pub pushes_nothing : {printer : Printer} {text : Page → List ℕ} → text (page_of printer) ≡ []
    → GoesExact printer printer (λ page at. word page.context (text page)) (λ page at. at)
pushes_nothing none = empty_pushed (rw none refl)
