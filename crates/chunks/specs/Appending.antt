-- Appending a chunk behind the used length of a room: what is answered, and what the room then holds.
use Rattle.std.specs.Prelude.{ℕ, ◌+◌, min, List, [], ◌∷◌, ◌++◌, Bool, true, false, cond, ◌||◌, length, eqb, ltb, Result, Ok, Err}
use Rattle.std.proofs.lemmas.List.Edits.{sets}
use Rattle.text.specs.Characters as characters
use Rattle.chunks.specs.Stored.{Chunk, stored_chunk}
use Rattle.chunks.specs.declared.append.Text.{Text}
use Rattle.chunks.specs.declared.append.Unappended.{Unappended}
use Rattle.chunks.specs.declared.append.Unappended.TheVariants.{NoRoom, NoChunk, UsedPastRoom}

-- "a pending space goes in front"
abbrev pub with_space : Bool → List ℕ → List ℕ
with_space true text = characters.space ∷ text
with_space false text = text

-- a label's colon goes behind
abbrev pub with_colon : Bool → List ℕ → List ℕ
with_colon true text = text ++ (characters.colon ∷ [])
with_colon false text = text

-- a chunk's text with its space and its colon
abbrev pub text_bytes : Text → List ℕ
text_bytes text = with_space text.spaced (with_colon text.colon text.text.now)

-- "room above 1,048,576 bytes counts as that"
abbrev pub capacity : ℕ → ℕ
capacity room = min room 1048576

-- the chunk has no stored form: an indent above 4,096, or a text that is empty or above 65,535 bytes
abbrev pub unstorable : Chunk → Bool
unstorable chunk = ltb 4096 chunk.indent || (eqb (length chunk.text) 0 || ltb 65535 (length chunk.text))

-- the answer in a room of so many bytes: the length needed where the chunk does not fit
unfoldable pub appended : ℕ → ℕ → Chunk → Result ℕ Unappended
appended room used chunk =
    cond (unstorable chunk) (Err NoChunk)
    (cond (ltb (capacity room) used) (Err UsedPastRoom)
    (cond (ltb (capacity room) (used + length (stored_chunk chunk))) (Err (NoRoom (used + length (stored_chunk chunk))))
    (Ok (used + length (stored_chunk chunk)))))

-- the room: the stored chunk where it was appended, every other byte as it was
abbrev pub room_on : Result ℕ Unappended → List ℕ → ℕ → Chunk → List ℕ
room_on (Ok end) room used chunk = sets room used (stored_chunk chunk)
room_on (Err (NoRoom needed)) room used chunk = room
room_on (Err NoChunk) room used chunk = room
room_on (Err UsedPastRoom) room used chunk = room

unfoldable pub room_after : List ℕ → ℕ → Chunk → List ℕ
room_after room used chunk = room_on (appended (length room) used chunk) room used chunk
