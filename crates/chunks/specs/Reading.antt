-- Reading a stored chunk list: what stands at a place, and the chunks from the list's start on.
use Rattle.std.specs.Prelude.{◌≡◌, ℕ, zero, suc, ◌+◌, ◌%◌, ◌≤◌, ◌<◌, List, [], ◌∷◌, map, cond, length, get_or}
use Rattle.std.specs.Prelude.{eqb, ltb, leb, Option, Some, None, Result, MatchResult}
use Rattle.std.proofs.Math.Seq.{slice}
use Rattle.text.specs.Numbers.{read_number}
use Rattle.chunks.specs.Stored.{Chunk, type_bits}
use Rattle.chunks.specs.declared.stored.ChunkType.{ChunkType}
use Rattle.chunks.specs.declared.stored.ChunkType.TheVariants.{Code, Label, Comment}
use Rattle.chunks.specs.declared.stored.NoType.{NoType}
use Rattle.chunks.specs.declared.stored.StoredChunk.{StoredChunk}

-- bit 0 is a label, bit 1 a comment, neither is code
abbrev pub type_of : ℕ → ChunkType
type_of bits = cond (eqb bits 1) Label (cond (eqb bits 2) Comment Code)

-- the type whose bits these are; they are none's where both stand
abbrev pub Tells : ℕ → Result ChunkType NoType → Type 0
Tells bits r = MatchResult r (λ ty. type_bits ty ≡ bits) (λ _. 2 < bits)

-- a text length of at least 1, and as many bytes
abbrev pub text_on : List ℕ → ℕ → ChunkType → ℕ → Option ℕ → Option StoredChunk
text_on list at ty indent None = None
text_on list at ty indent (Some count) =
    cond (eqb count 0) None
    (cond (ltb (length list) (at + 2 + count)) None
    (Some (record { ty = ty; indent = indent; start = at + 2; end = at + 2 + count })))

unfoldable pub text_at : List ℕ → ℕ → ChunkType → ℕ → Option StoredChunk
text_at list at ty indent = text_on list at ty indent (read_number list at)

-- a stored indent is 1 to 4,096
abbrev pub indent_on : List ℕ → ℕ → ChunkType → Option ℕ → Option StoredChunk
indent_on list at ty None = None
indent_on list at ty (Some indent) =
    cond (eqb indent 0) None (cond (ltb 4096 indent) None (text_at list (at + 2) ty indent))

-- a map with no bit above bit 2 and not both of bits 0 and 1; where bit 2 stands the indent; then the text
unfoldable pub chunk_at : List ℕ → ℕ → Option StoredChunk
chunk_at list at =
    cond (leb (length list) at) None
    (cond (ltb 7 (get_or list at 0)) None
    (cond (eqb (get_or list at 0 % 4) 3) None
    (cond (ltb (get_or list at 0) 4) (text_at list (at + 1) (type_of (get_or list at 0 % 4)) 0)
    (indent_on list (at + 1) (type_of (get_or list at 0 % 4)) (read_number list (at + 1))))))

-- The chunks from a place on, as long as there are any. The first argument bounds how many; a list has no more chunks
-- than bytes.
abbrev pub rest_on : (ℕ → List StoredChunk) → Option StoredChunk → List StoredChunk
rest_on rest (Some chunk) = chunk ∷ rest chunk.end
rest_on rest None = []

unfoldable pub chunks_from : ℕ → List ℕ → ℕ → List StoredChunk
chunks_from zero list at = []
chunks_from (suc n) list at = rest_on (chunks_from n list) (chunk_at list at)

unfoldable pub stored_chunks : List ℕ → ℕ → List StoredChunk
stored_chunks list at = chunks_from (length list) list at

-- a stored chunk with its text
abbrev pub chunk_of : List ℕ → StoredChunk → Chunk
chunk_of list chunk = record { ty = chunk.ty; indent = chunk.indent; text = slice chunk.start chunk.end list }

-- the chunks from a place on
unfoldable pub chunks_at : List ℕ → ℕ → List Chunk
chunks_at list at = map (chunk_of list) (stored_chunks list at)

-- the chunks of a list
abbrev pub chunks_of : List ℕ → List Chunk
chunks_of list = chunks_at list 0

-- what holds of a chunk that was found: its text lies behind its place and within the list
pub record ChunkFits (list : List ℕ) (at : ℕ) (chunk : StoredChunk) : Type 0 where
  pub behind : at + 3 ≤ chunk.start
  pub some : chunk.start < chunk.end
  pub inside : chunk.end ≤ length list
  pub short : chunk.end ≤ chunk.start + 65535
  pub indent : chunk.indent ≤ 4096

abbrev pub Fits : List ℕ → ℕ → Option StoredChunk → Type 0
Fits list at (Some chunk) = ChunkFits list at chunk
Fits list at None = Unit

-- each chunk fits where the one before it ends
abbrev pub AllFit : List ℕ → ℕ → List StoredChunk → Type 0
AllFit list at [] = Unit
AllFit list at (chunk ∷ chunks) = ChunkFits list at chunk × AllFit list chunk.end chunks
