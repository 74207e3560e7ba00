-- The chunks that are held for a tree that passed are chunks that the column setter accepts, and reading their stored form gives them back.
--   file_accepted : .. batch_checked bytes ≡ Passed → .. hold room (events_of .. (read_file 64 bytes).tree) (held [] false) ≡ held chunks pending
--       → Acceptable (reverse chunks)
use Rattle.answers.specs.Numbers.{no_refusal}
use mathlib.Core.Path.{◌≡◌}
use mathlib.Core.Logic.{⊎_elim}
use mathlib.Core.List.Memᴰ
use mathlib.Core.List.{List, [], ◌∷◌, ◌++◌, reverse, reverse-cons}
use mathlib.Core.Bool.{Bool, true, false}
use Prim.Native.Nat.{ℕ, ◌+◌, ◌≤◌}
use native.Mathlib.Omega.{arith}
use lib.ListN.{length, replicate, length-append, length-take, length-replicate}
use lib.Dec.{ltb}
use Rattle.answers.proofs.Cases.{failed_passed}
use Rattle.options.specs.declared.FormattingOptions.{FormattingOptions}
use Rattle.text.specs.Accepted.{accepted_byte, accepted_text}
use Rattle.text.specs.Lines.{is_empty, is_newline}
use Rattle.text.proofs.Accepted.{accepted_append}
use Rattle.text.proofs.Choices.{cond_both, true_false}
use Rattle.chunks.specs.Stored.{Chunk, stored_chunk, stored_list, AllWellFormed, AllAccepted}
use Rattle.chunks.specs.Appending.{with_space, capacity}
use Rattle.chunks.specs.declared.stored.ChunkType.{ChunkType}
use Rattle.chunks.proofs.RoundTrip.{chunks_stored, stored_accepted}
use Rattle.tree.specs.Reading.{Placed}
use Rattle.tree.specs.Checking.{read_file, texts_checked, batch_checked}
use Rattle.tree.proofs.Cases.{by_choice}
use Rattle.tree.proofs.Limits.{length_passed}
use Rattle.tree.proofs.Readings.{file_passed}
use Rattle.printing.specs.Events.{Events}
use Rattle.printing.specs.Running.{Run, going, ended, at_start, run, settled}
use Rattle.printing.specs.Holding.{Held, held, refused, held_length, hold_chunk, without_newlines, hold, Storable, Same}
use Rattle.printing.proofs.Holding.{holds_nothing, same}
use Rattle.events.specs.Accepted.{Acceptable}
use Rattle.events.specs.Trees.{events_of}
use Rattle.events.proofs.Texts.{Holds}
use Rattle.events.proofs.Pushes.{EveryPush, none, pushes, spaces, clears, trims, stops, ◌and◌, file_push}
use Rattle.events.proofs.Storable.{Short, file_short, file_storable}

-- ---- what is held

-- a text that may be pushed
abbrev Fine : List ℕ → Type 0
Fine text = (length text ≤ 65534) × (accepted_text text ≡ true)

abbrev AllFine : List Chunk → Type 0
AllFine chunks = AllWellFormed chunks × AllAccepted chunks

abbrev FineHeld : Held → Type 0
FineHeld (held chunks pending) = AllFine chunks
FineHeld (refused why) = Unit

-- a chunk more
fine_more : (pending : Bool) (ty : ChunkType) (indent : ℕ) (text : List ℕ) → indent ≤ 4096 → Fine text → is_empty text ≡ false
    → (chunks : List Chunk) → AllFine chunks → AllFine (record { ty = ty; indent = indent; text = with_space pending text } ∷ chunks)
unfolding accepted_text accepted_byte
fine_more pending ty indent [] low fine some chunks all = true_false some
fine_more true ty indent (b ∷ text) low fine some chunks all =
    ((record { indent = low; some = omega arith; short = omega (arith, fine.0) }, all.0), (fine.1, all.1))
fine_more false ty indent (b ∷ text) low fine some chunks all =
    ((record { indent = low; some = omega arith; short = omega (arith, fine.0) }, all.0), (fine.1, all.1))

-- those that are left without newlines at the end
fine_without : (chunks : List Chunk) → AllFine chunks → AllFine (without_newlines chunks)
unfolding without_newlines
fine_without [] all = all
fine_without (chunk ∷ chunks) all =
    cond_both AllFine (is_newline chunk.text) (without_newlines chunks) (chunk ∷ chunks) (λ newline. fine_without chunks (all.0.1, all.1.1)) (λ other. all)

-- pushes of such texts hold such chunks
fine_held : (room : ℕ) {events : Events} → EveryPush Fine events → (state : Held) → FineHeld state → FineHeld (hold room events state)
unfolding hold
fine_held room none state all = all
fine_held room (pushes {ty} {context} {text} low fine) (held chunks pending) all =
    cond_both FineHeld (is_empty text) (held chunks pending) (hold_chunk room chunks (record { ty = ty; indent = context.indent; text = with_space pending text }))
    (λ empty. all)
    (λ some.
    cond_both FineHeld (ltb (capacity room) (held_length chunks + length (stored_chunk (record { ty = ty; indent = context.indent; text = with_space pending text })))) _ _
    (λ full. tt) (λ fits. fine_more pending ty context.indent text low fine some chunks all))
fine_held room (pushes low fine) (refused why) all = tt
fine_held room spaces (held chunks pending) all = all
fine_held room spaces (refused why) all = tt
fine_held room clears (held chunks pending) all = all
fine_held room clears (refused why) all = tt
fine_held room trims (held chunks pending) all = fine_without chunks all
fine_held room trims (refused why) all = tt
fine_held room stops (held chunks pending) all = tt
fine_held room stops (refused why) all = tt
fine_held room (one and others) state all = fine_held room others _ (fine_held room one state all)

-- ---- oldest first

-- chunks end to end
fine_append : (chunks others : List Chunk) → AllFine chunks → AllFine others → AllFine (chunks ++ others)
fine_append [] others all rest = rest
fine_append (chunk ∷ chunks) others all rest =
    let more = fine_append chunks others (all.0.1, all.1.1) rest in ((all.0.0, more.0), (all.1.0, more.1))

-- the other way round
fine_reverse : (chunks : List Chunk) → AllFine chunks → AllFine (reverse chunks)
fine_reverse [] all = all
fine_reverse (chunk ∷ chunks) all =
    rw (reverse-cons chunk chunks)
    (fine_append (reverse chunks) (chunk ∷ []) (fine_reverse chunks (all.0.1, all.1.1)) ((all.0.0, tt), (all.1.0, tt)))

-- ---- no more is held than a chunk list may have

-- a run in a room leaves what the room holds
same_length : (room : ℕ) (ran : Run) (chunks : List Chunk) (pending : Bool) → Same room ran (held chunks pending) → length (stored_list (reverse chunks)) ≤ 1048576
same_length room (going bytes state) chunks pending agreed =
    rw (← agreed.1.stored) (omega (arith, length-take state.used bytes, agreed.1.fits))
same_length room (ended bytes why) chunks pending agreed = absurd agreed

-- so with what is held
held_length_lem : (room : ℕ) (events : Events) → Storable events → {chunks : List Chunk} {pending : Bool}
    → hold room events (held [] false) ≡ held chunks pending → length (stored_list (reverse chunks)) ≤ 1048576
held_length_lem room events fine {chunks} {pending} is =
    let zeros : List ℕ = replicate room 0 in
    same_length room (settled (run events (going zeros at_start))) chunks pending
    (rw (length-replicate {A = ℕ} room 0, is) at (same events fine (holds_nothing zeros)))

-- ---- a file that passed

-- its texts
texts_passed : (texts : List Placed) → texts_checked texts ≡ no_refusal → Holds (λ text. accepted_text text ≡ true) texts
unfolding texts_checked
texts_passed [] e text member = absurd (Memᴰ.not-nil member)
texts_passed (other ∷ texts) e text member =
    by_choice (accepted_text other.bytes) _ _ no_refusal e
    (λ t f. ⊎_elim (λ is. rw is t) (λ rest. texts_passed texts f text rest) (Memᴰ.cases_cons member))
    (λ t f. failed_passed f)

-- what is held for a file that passed
pub file_accepted : (bytes : List ℕ) (options : FormattingOptions) (room : ℕ) {chunks : List Chunk} {pending : Bool}
    → batch_checked bytes ≡ no_refusal → options.whitespace.indent ≤ 64
    → hold room (events_of (record { options = options; indent = 0 }) (read_file 64 bytes).tree) (held [] false) ≡ held chunks pending
    → Acceptable (reverse chunks)
unfolding accepted_text accepted_byte
file_accepted bytes options room {chunks} {pending} passed narrow is =
    let file = file_passed 65535 64 bytes passed in
    let limit = length_passed 65535 bytes file.size in
    let fine : EveryPush Fine (events_of (record { options = options; indent = 0 }) (read_file 64 bytes).tree) =
    file_push (λ text. Short text × (accepted_text text ≡ true)) Fine
    (λ text small. (omega (arith, small.0), small.1))
    (λ text fine. (omega (arith, fine.0), fine.1))
    (λ text fine. (omega (arith, fine.0, length-append text (58 ∷ [])), rw (accepted_append, fine.1)))
    options narrow 64 bytes (omega arith)
    (λ text member. (file_short 64 bytes limit text member, texts_passed (read_file 64 bytes).texts file.texts text member)) in
    let all : AllFine (reverse chunks) = fine_reverse chunks (rw is at (fine_held room fine (held [] false) (tt, tt))) in
    record {
      formed = all.0;
      texts = all.1;
      checked = stored_accepted (reverse chunks) all.0 all.1
          (held_length_lem room _ (file_storable 64 bytes limit options (omega arith) narrow) is);
      restored = chunks_stored (reverse chunks) all.0;
    }
