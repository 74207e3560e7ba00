-- Laws of storing a chunk into a room.
use Rattle.std.specs.Prelude.{Option, Some, Result, Ok, Err, IsSome, IsOk}
use Rattle.std.specs.Option.{is_some}
use Rattle.std.specs.Result.{is_ok}
use mathlib.Core.Logic.{◌⊎◌, inl, inr}
use mathlib.Core.Path.{◌≡◌, refl, sym, ap, ◌∙◌}
use mathlib.Core.List.{List, ◌++◌, append-nil}
use mathlib.Core.Bool.{Bool, true, false}
use Prim.Native.Nat.{ℕ, suc, ◌+◌, ◌≤◌, ◌<◌}
use native.Mathlib.Omega.{arith}
use native.Mathlib.Numerals.{add-one}
use lib.ListN.{length, set, length-set, length-append}
use lib.Seq.{sets, length-sets}
use lib.Dec.{eqb, ltb}
use borrow.Author.Tests.{lt-ltb, le-ltb, le-leb, eq-eqb, ne_eqb}
use Rattle.text.specs.Numbers.{two_bytes}
use Rattle.text.specs.declared.numbers.Unstored.{Unstored}
use Rattle.text.specs.Stores.{stored_end, number_end, stored_buffer, number_buffer}
use Rattle.text.proofs.Buffers.{sets_append}
use Rattle.text.proofs.Choices.{or_right}
use Rattle.chunks.specs.Stored.{Chunk, type_bits, indent_bit, stored_indent, stored_head, stored_chunk, WellFormed}
use Rattle.chunks.specs.Appending.{with_space, with_colon, capacity, unstorable, appended, room_after}
use Rattle.chunks.specs.Steps.{byte_if}
use Rattle.chunks.specs.declared.stored.ChunkType.{ChunkType}
use Rattle.chunks.specs.declared.append.Unappended.{Unappended}
use Rattle.chunks.specs.declared.append.Unappended.TheVariants.{NoRoom, NoChunk, UsedPastRoom}

module _ (buffer : List ℕ) (at : ℕ) (bytes : List ℕ) (room : at + length bytes ≤ length buffer) where
  -- bytes that fit are stored
  bytes_fit : stored_buffer buffer at bytes ≡ sets buffer at bytes
  bytes_fit = rw (le-leb _ _ room)

  -- and the answer is the place behind them
  module _ {answer : Option ℕ} (told : answer ≡ stored_end buffer at bytes) where
    behind_bytes : answer ≡ Some (at + length bytes)
    behind_bytes = told ∙ rw (le-leb _ _ room)

    pub bytes_some : IsSome answer
    bytes_some = ap is_some behind_bytes

    pub bytes_end : {end : ℕ} → answer ≡ Some end → end ≡ at + length bytes
    bytes_end e = let behind = behind_bytes in cc

module _ (buffer : List ℕ) (at n : ℕ) (small : n ≤ 65535) (room : at + 2 ≤ length buffer) where
  -- so is a number that fits and has a stored form
  pub number_fits : number_buffer buffer at n ≡ sets buffer at (two_bytes n)
  number_fits = rw (le-ltb _ _ small) (bytes_fit buffer at (two_bytes n) room)

  -- and the answer is the place behind it
  module _ {answer : Result ℕ Unstored} (told : answer ≡ number_end buffer at n) where
    behind_number : answer ≡ Ok (at + 2)
    behind_number = told ∙ rw (le-ltb _ _ small, le-leb _ _ room)

    pub number_ok : IsOk answer
    number_ok = ap is_ok behind_number

    pub number_place : {end : ℕ} → answer ≡ Ok end → end ≡ at + 2
    number_place e = let behind = behind_number in cc

-- a map, an indent and a text length, stored one behind the other, are a head stored
pub head_stores : (room : List ℕ) (at : ℕ) (ty : ChunkType) (indent count : ℕ) {map behind : ℕ} {one two : List ℕ}
    → count ≤ 65535 → at + length (stored_head ty indent count) ≤ length room
    → map ≡ type_bits ty + indent_bit indent → one ≡ sets (set room at map) (at + 1) (stored_indent indent)
    → behind ≡ at + 1 + length (stored_indent indent) → two ≡ number_buffer one behind count
    → two ≡ sets room at (stored_head ty indent count)
unfolding stored_head
head_stores room at ty indent count short fits first second place third =
    let head = set room at (type_bits ty + indent_bit indent) in
    let same : length (sets head (at + 1) (stored_indent indent)) ≡ length room = simp (length-sets, length-set) in
    let enough : at + 1 + length (stored_indent indent) + 2 ≤ length (sets head (at + 1) (stored_indent indent)) = omega (arith, length-append (stored_indent indent) (two_bytes count)) in
    rw (third, place, second, first)
    (number_fits (sets head (at + 1) (stored_indent indent)) (at + 1 + length (stored_indent indent)) count short enough
    ∙ rw (add-one at) (sym (sets_append head (suc at) (stored_indent indent) (two_bytes count))))

-- a run stored behind another is one run
runs_next : (room : List ℕ) (at : ℕ) (xs ys : List ℕ) {place : ℕ} {one two : List ℕ}
    → one ≡ sets room at xs → place ≡ at + length xs → two ≡ sets one place ys → two ≡ sets room at (xs ++ ys)
runs_next room at xs ys first there second = rw (second, there, first) (sym (sets_append room at xs ys))

-- so is a run that is copied where it fits
copy_next : (room : List ℕ) (at : ℕ) (xs ys : List ℕ) {place : ℕ} {one two : List ℕ} → at + length (xs ++ ys) ≤ length room
    → one ≡ sets room at xs → place ≡ at + length xs → two ≡ stored_buffer one place ys → two ≡ sets room at (xs ++ ys)
copy_next room at xs ys {place} {one} fits first there second =
    let enough : place + length ys ≤ length one = rw (there, first) (omega (arith, length-append xs ys, length-sets room at xs)) in
    runs_next room at xs ys first there (second ∙ bytes_fit one place ys enough)

-- a head and a text, stored one behind the other, are the chunk stored
pub chunk_stores : (room : List ℕ) (used : ℕ) (chunk : Chunk) {count place : ℕ} {one two : List ℕ} → count ≡ length chunk.text
    → place ≡ used + length (stored_head chunk.ty chunk.indent count) → one ≡ sets room used (stored_head chunk.ty chunk.indent count)
    → two ≡ sets one place chunk.text → two ≡ sets room used (stored_chunk chunk)
unfolding stored_chunk
chunk_stores room used chunk {count} counted there first second =
    rw (← counted) (runs_next room used (stored_head chunk.ty chunk.indent count) chunk.text first there second)

-- ---- a text with its space and its colon

-- the space and the colon are bytes that stand only where a flag is set
text_parts : (spaced : Bool) (text : List ℕ) (colon : Bool) → with_space spaced (with_colon colon text) ≡ (byte_if spaced 32 ++ text) ++ byte_if colon 58
text_parts true text true = refl
text_parts true text false = rw append-nil
text_parts false text true = refl
text_parts false text false = rw append-nil

module _ (spaced : Bool) (text : List ℕ) (colon : Bool) where
  -- so the text is as long as the three together
  pub text_length : length (with_space spaced (with_colon colon text)) ≡ length (byte_if spaced 32) + length text + length (byte_if colon 58)
  text_length = rw (text_parts spaced text colon) (simp length-append)

  -- the three stored one behind the other are the whole text stored
  pub text_stores : (room : List ℕ) (at : ℕ) {start end : ℕ} {one two three : List ℕ} → at + length (with_space spaced (with_colon colon text)) ≤ length room
      → start ≡ at + length (byte_if spaced 32) → one ≡ sets room at (byte_if spaced 32) → two ≡ stored_buffer one start text
      → end ≡ start + length text → three ≡ sets two end (byte_if colon 58) → three ≡ sets room at (with_space spaced (with_colon colon text))
  text_stores room at fits there first second behind third =
      let between = length-append (byte_if spaced 32) text in
      rw (text_parts spaced text colon)
      (runs_next room at (byte_if spaced 32 ++ text) (byte_if colon 58)
      (copy_next room at (byte_if spaced 32) text (omega (arith, text_length)) first there second)
      (omega arith)
      third)

-- ---- the answers, each with what the room then holds

-- what appending a chunk answers, and the room then
abbrev pub Appends : List ℕ → ℕ → Chunk → Result ℕ Unappended → List ℕ → Type 0
Appends room used chunk answer after = (answer ≡ appended (length room) used chunk) × (after ≡ room_after room used chunk)

module _ (room : List ℕ) (used : ℕ) (chunk : Chunk) where
  -- a chunk without a stored form is not stored: its indent is too large, its text empty or too long
  unstored : unstorable chunk ≡ true → Appends room used chunk (Err NoChunk) room
  unfolding appended room_after
  unstored bad = (rw bad, rw bad)

  -- which the tests tell one after the other
  refused : (4096 < chunk.indent) ⊎ (((chunk.indent ≤ 4096) × (length chunk.text ≡ 0)) ⊎ ((chunk.indent ≤ 4096) × (length chunk.text ≡ 0 → ⊥) × (65535 < length chunk.text)))
      → unstorable chunk ≡ true
  refused (inl deep) = rw (lt-ltb _ _ deep)
  refused (inr (inl empty)) = or_right (ltb 4096 chunk.indent) _ (rw (eq-eqb _ _ empty.1))
  refused (inr (inr long)) = or_right (ltb 4096 chunk.indent) _ (or_right (eqb (length chunk.text) 0) _ (lt-ltb _ _ long.2))

  pub append_none : (4096 < chunk.indent) ⊎ (((chunk.indent ≤ 4096) × (length chunk.text ≡ 0)) ⊎ ((chunk.indent ≤ 4096) × (length chunk.text ≡ 0 → ⊥) × (65535 < length chunk.text)))
      → Appends room used chunk (Err NoChunk) room
  append_none why = unstored (refused why)

  module _ (good : WellFormed chunk) where
    -- any other has one
    storable : unstorable chunk ≡ false
    storable = rw (le-ltb _ _ good.indent, ne_eqb (length chunk.text) 0 (λ none. omega arith), le-ltb _ _ good.short)

    -- it is not stored behind a used length past the room
    pub append_past : capacity (length room) < used → Appends room used chunk (Err UsedPastRoom) room
    unfolding appended room_after
    append_past past = (rw (storable, lt-ltb _ _ past), rw (storable, lt-ltb _ _ past))

    module _ {end : ℕ} (within : used ≤ capacity (length room)) (ends : end ≡ used + length (stored_chunk chunk)) where
      -- nor where it does not fit
      pub append_no_room : capacity (length room) < end → Appends room used chunk (Err (NoRoom end)) room
      unfolding appended room_after
      append_no_room full = (rw (storable, le-ltb _ _ within, ← ends, lt-ltb _ _ full), rw (storable, le-ltb _ _ within, ← ends, lt-ltb _ _ full))

      -- where it fits it is stored
      pub append_stored : {after : List ℕ} → end ≤ capacity (length room) → after ≡ sets room used (stored_chunk chunk) → Appends room used chunk (Ok end) after
      unfolding appended room_after
      append_stored fits stored = (rw (storable, le-ltb _ _ within, ← ends, le-ltb _ _ fits), stored ∙ rw (storable, le-ltb _ _ within, ← ends, le-ltb _ _ fits))
