-- The length that a push needs is below 2^32: what is held is at most 1,048,576 bytes, and a chunk at most 65,540.
--   held_within : (tree options : List ℕ) (size : ℕ) → HeldWithin (chunks_held tree options size)
use Rattle.std.specs.Prelude.{Result, Ok, Err}
use Rattle.answers.specs.declared.Refusal.{Refusal}
use Rattle.answers.specs.Numbers.{Checked}
use mathlib.Core.Path.{◌≡◌, refl}
use mathlib.Core.List.{List, [], ◌∷◌}
use mathlib.Core.Bool.{Bool, true, false}
use Prim.Native.Nat.{ℕ, ◌+◌, ◌≤◌}
use native.Mathlib.Omega.{arith}
use lib.ListN.{length}
use lib.Dec.{ltb}
use borrow.Author.Tests.{ltb-false}
use Rattle.options.specs.Stored.{read_options}
use Rattle.options.specs.declared.FormattingOptions.{FormattingOptions}
use Rattle.text.specs.Lines.{is_empty, is_newline}
use Rattle.text.proofs.Choices.{cond_both}
use Rattle.chunks.specs.Stored.{Chunk, stored_chunk}
use Rattle.chunks.specs.Appending.{with_space, capacity}
use Rattle.chunks.proofs.Forms.{chunk_length, indent_length}
use Rattle.printing.specs.Events.{Events}
use Rattle.printing.specs.Holding.{Held, held, refused, held_length, hold_chunk, without_newlines, hold, Storable}
use Rattle.printing.proofs.Stops.{Free, none, pushes, spaces, clears, trims, ◌and◌}
use Rattle.events.proofs.Storable.{file_storable}
use Rattle.tree.specs.Checking.{batch_checked}
use Rattle.tree.proofs.Limits.{length_passed}
use Rattle.tree.proofs.Readings.{file_passed}
use Rattle.tokens.specs.Chunks.{file_events, held_unless, held_with, chunks_held}
use Rattle.exports.proofs.Within.{Within}
use Rattle.exports.proofs.ListPlaces.{ReadWithin, options_within}
use Rattle.exports.proofs.TreePlaces.{tree_within}
use Rattle.exports.proofs.Stops.{file_free}

-- what is held fits the longest list, and a refusal's place is small
abbrev pub HeldWithin : Held → Type 0
HeldWithin (held chunks pending) = held_length chunks ≤ 1048576
HeldWithin (refused why) = why.place ≤ 1114116

-- a pending space is one byte
spaced_length : (pending : Bool) (text : List ℕ) → length (with_space pending text) ≤ 1 + length text
spaced_length true text = omega arith
spaced_length false text = omega arith

-- a chunk more
chunk_within : (room : ℕ) (chunks : List Chunk) (chunk : Chunk) → held_length chunks ≤ 1048576 → length chunk.text ≤ 65535 → HeldWithin (hold_chunk room chunks chunk)
unfolding held_length
chunk_within room chunks chunk fits short =
    cond_both HeldWithin (ltb (capacity room) (held_length chunks + length (stored_chunk chunk))) _ _
    (λ full. omega (arith, chunk_length chunk, indent_length chunk.indent))
    (λ more. omega (arith, ltb-false (capacity room) (held_length chunks + length (stored_chunk chunk)) more))

-- newlines dropped leave no more
without_within : (chunks : List Chunk) → held_length (without_newlines chunks) ≤ held_length chunks
unfolding held_length without_newlines
without_within [] = omega arith
without_within (chunk ∷ chunks) =
    cond_both (λ (left : List Chunk). held_length left ≤ held_length chunks + length (stored_chunk chunk)) (is_newline chunk.text) _ _
    (λ newline. omega (arith, without_within chunks)) (λ other. omega arith)

-- events that do not stop
events_within : (room : ℕ) {events : Events} → Free events → Storable events → (state : Held) → HeldWithin state → HeldWithin (hold room events state)
unfolding hold Storable
events_within room none storable state within = within
events_within room (pushes {ty} {context} {text}) storable (held chunks pending) within =
    cond_both HeldWithin (is_empty text) _ _ (λ empty. within)
    (λ some.
    chunk_within room chunks (record { ty = ty; indent = context.indent; text = with_space pending text }) within
    (omega (arith, spaced_length pending text, storable.1)))
events_within room pushes storable (refused why) within = within
events_within room spaces storable (held chunks pending) within = within
events_within room spaces storable (refused why) within = within
events_within room clears storable (held chunks pending) within = within
events_within room clears storable (refused why) within = within
events_within room trims storable (held chunks pending) within = omega (arith, within, without_within chunks)
events_within room trims storable (refused why) within = within
events_within room (one and others) storable state within = events_within room others storable.1 _ (events_within room one storable.0 state within)

-- ---- of a tree

module _ (tree : List ℕ) (size : ℕ) (options : FormattingOptions) (narrow : options.whitespace.indent ≤ 64) where
  walked_within : (checked : Checked) → batch_checked tree ≡ checked → Within 65535 checked
      → HeldWithin (held_unless checked (hold size (file_events options tree) (held [] false)))
  unfolding held_length
  walked_within (Ok tt) passed within =
      let short = length_passed 65535 tree (file_passed 65535 64 tree passed).size in
      events_within size (file_free tree options passed) (file_storable 64 tree short options (omega arith) narrow) (held [] false) (omega arith)
  walked_within (Err why) is within = omega (arith, within)

read_within : (tree : List ℕ) (size : ℕ) (found : Result FormattingOptions Refusal) → ReadWithin found → HeldWithin (held_with found tree size)
read_within tree size (Ok options) narrow = walked_within tree size options narrow (batch_checked tree) refl (tree_within tree)
read_within tree size (Err why) within = omega (arith, within)

pub held_within : (tree options : List ℕ) (size : ℕ) → HeldWithin (chunks_held tree options size)
unfolding chunks_held
held_within tree options size = read_within tree size (read_options options) (options_within options)
