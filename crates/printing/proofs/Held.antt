-- The texts of what is held have the ink of what was pushed.
use mathlib.Core.Path.{◌≡◌, refl, sym, ap, ◌∙◌}
use mathlib.Core.List.{List, [], ◌∷◌, ◌++◌, map, reverse, reverse-cons, append_assoc, append-nil, map-append}
use mathlib.Core.Bool.{Bool, true, false}
use Prim.Native.Nat.{ℕ, ◌+◌}
use lib.ListN.{length}
use lib.Dec.{ltb}
use Rattle.text.specs.Ink.{blank, ink, inks}
use Rattle.text.specs.Lines.{is_empty, is_newline}
use Rattle.text.proofs.Choices.{by_test, true_false, cond_both}
use Rattle.text.proofs.Ink.{inks_append}
use Rattle.text.proofs.Lines.{ink_newline}
use Rattle.chunks.specs.Stored.{Chunk, stored_chunk}
use Rattle.chunks.specs.Appending.{with_space, capacity}
use Rattle.printing.specs.Events.{Events, nothing, push, space, clear, trim, stop, ◌▹◌}
use Rattle.printing.specs.Holding.{Held, held, refused, held_length, hold_chunk, without_newlines, hold, held_texts, ink_of}

-- ---- texts

-- a pending space has no ink
ink_spaced : (pending : Bool) (text : List ℕ) → ink (with_space pending text) ≡ ink text
unfolding ink blank
ink_spaced true text = refl
ink_spaced false text = refl

-- nor has an empty text
ink_empty : (text : List ℕ) → is_empty text ≡ true → ink text ≡ []
unfolding ink
ink_empty [] empty = refl
ink_empty (b ∷ text) empty = true_false (sym empty)

-- ---- chunks

-- the newest chunk's ink comes last
ink_newest : (chunk : Chunk) (chunks : List Chunk) → inks (held_texts (chunk ∷ chunks)) ≡ inks (held_texts chunks) ++ ink chunk.text
unfolding inks
ink_newest chunk chunks =
    ap (λ (l : List Chunk). inks (map (λ (c : Chunk). c.text) l)) (reverse-cons chunk chunks)
    ∙ ap inks (map-append (λ (c : Chunk). c.text) (reverse chunks) (chunk ∷ []))
    ∙ inks_append (held_texts chunks) (chunk.text ∷ []) ∙ ap (λ (l : List ℕ). inks (held_texts chunks) ++ l) (append-nil (ink chunk.text))

-- newline chunks that are dropped have none
ink_without : (chunks : List Chunk) → inks (held_texts (without_newlines chunks)) ≡ inks (held_texts chunks)
unfolding without_newlines
ink_without [] = refl
ink_without (chunk ∷ chunks) =
    by_test (is_newline chunk.text)
    (λ newline. rw newline (ink_without chunks ∙ sym (ink_newest chunk chunks ∙ rw (ink_newline chunk.text newline) (append-nil (inks (held_texts chunks))))))
    (λ other. rw other)

-- ---- events

-- the ink of what is held; of a walk that was refused nothing is said
abbrev Inked : Held → List ℕ → Type 0
Inked (held chunks pending) bytes = inks (held_texts chunks) ≡ bytes
Inked (refused why) bytes = Unit

-- a chunk more, if it fits
ink_chunk : (size : ℕ) (chunks : List Chunk) (chunk : Chunk) → Inked (hold_chunk size chunks chunk) (inks (held_texts chunks) ++ ink chunk.text)
ink_chunk size chunks chunk =
    cond_both (λ (state : Held). Inked state (inks (held_texts chunks) ++ ink chunk.text)) (ltb (capacity size) (held_length chunks + length (stored_chunk chunk))) _ _
    (λ full. tt) (λ fits. ink_newest chunk chunks)

-- the events add the ink of what they push
ink_added : (size : ℕ) (events : Events) (state : Held) (bytes : List ℕ) → Inked state bytes → Inked (hold size events state) (bytes ++ ink_of events)
unfolding hold ink_of
ink_added size nothing (held chunks pending) bytes inked = inked ∙ sym (append-nil bytes)
ink_added size (push ty context text) (held chunks pending) bytes inked =
    cond_both (λ (state : Held). Inked state (bytes ++ ink text)) (is_empty text) _ _
    (λ empty. rw (ink_empty text empty) (inked ∙ sym (append-nil bytes)))
    (λ some.
    rw (← inked, ← (ink_spaced pending text)) (ink_chunk size chunks (record { ty = ty; indent = context.indent; text = with_space pending text })))
ink_added size space (held chunks pending) bytes inked = inked ∙ sym (append-nil bytes)
ink_added size clear (held chunks pending) bytes inked = inked ∙ sym (append-nil bytes)
ink_added size trim (held chunks pending) bytes inked = ink_without chunks ∙ inked ∙ sym (append-nil bytes)
ink_added size (stop why) (held chunks pending) bytes inked = tt
ink_added size nothing (refused why) bytes inked = tt
ink_added size (push ty context text) (refused why) bytes inked = tt
ink_added size space (refused why) bytes inked = tt
ink_added size clear (refused why) bytes inked = tt
ink_added size trim (refused why) bytes inked = tt
ink_added size (stop reason) (refused why) bytes inked = tt
ink_added size (first ▹ next) state bytes inked =
    rw append_assoc at (ink_added size next (hold size first state) (bytes ++ ink_of first) (ink_added size first state bytes inked))

-- the ink law: where events were not refused, the texts of what is held have the ink that they had, and then that of what was pushed
pub hold_ink : (size : ℕ) (events : Events) (chunks : List Chunk) (pending : Bool) {after : List Chunk} {space : Bool}
    → hold size events (held chunks pending) ≡ held after space → inks (held_texts after) ≡ inks (held_texts chunks) ++ ink_of events
hold_ink size events chunks pending e = rw e at (ink_added size events (held chunks pending) (inks (held_texts chunks)) refl)
