-- Not part of any promise of this crate: what its inner functions hand on.
use Rattle.chunks.specs.declared.stored.ChunkType.{ChunkType}
use Rattle.chunks.specs.declared.stored.StoredChunk.{StoredChunk}
use Rattle.std.specs.Prelude.{ℕ, ◌+◌, ◌≤◌, ◌<◌, List, [], ◌∷◌, Bool, true, false, cond, length, eqb, ltb}
use Rattle.std.specs.Prelude.{Option, Some, None}
use Rattle.chunks.specs.Reading.{stored_chunks}
use Rattle.chunks.specs.declared.list.Chunks.{Chunks}

-- the chunks that are left
abbrev pub chunks_left : Chunks → List StoredChunk
chunks_left chunks = stored_chunks chunks.list.now chunks.at

-- a chunk's text lies within a list
pub record ChunkInside (list : List ℕ) (chunk : StoredChunk) : Type 0 where
  pub start : chunk.start < chunk.end
  pub end : chunk.end ≤ length list

-- a byte where a flag is set, else nothing
abbrev pub byte_if : Bool → ℕ → List ℕ
byte_if true byte = byte ∷ []
byte_if false byte = []

-- a chunk whose text is the first `count` of `room` bytes from `start` on
abbrev pub text_behind : ℕ → ℕ → ℕ → ChunkType → ℕ → Option StoredChunk
text_behind room start count ty indent =
    cond (eqb count 0) None
    (cond (ltb room count) None
    (Some (record { ty = ty; indent = indent; start = start; end = start + count })))
