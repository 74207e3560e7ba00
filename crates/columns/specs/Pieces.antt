-- The pieces of chunks: document 01, `join_chunks`, "Each chunk is cut after every newline."
use Rattle.std.specs.Prelude.{ℕ, List, [], ◌∷◌, ◌++◌, Bool, true, false, cond, eqb}
use Rattle.text.specs.Characters as characters
use Rattle.text.specs.Lines.{onto, is_newline}
use Rattle.chunks.specs.Stored.{Chunk}
use Rattle.chunks.specs.declared.stored.ChunkType.{ChunkType}
use Rattle.columns.specs.declared.Follows.{Follows}
use Rattle.columns.specs.declared.Follows.TheVariants.{Nothing, Newline, Other}

unfoldable pub cut : List ℕ → List (List ℕ)
cut [] = []
cut (b ∷ bs) = cond (eqb b characters.newline) ((b ∷ []) ∷ cut bs) (onto b (cut bs))

-- what follows a chunk, by the chunks behind it
abbrev pub following : List Chunk → Follows
following [] = Nothing
following (chunk ∷ chunks) = cond (is_newline chunk.text) Newline Other

-- a piece, with what its chunk tells of it: type and indent, whether the chunk starts with it, and what follows the chunk
pub record Piece : Type 0 where
  pub ty : ChunkType
  pub indent : ℕ
  pub starts : Bool
  pub text : List ℕ
  pub follows : Follows

unfoldable pub pieces_of : ChunkType → ℕ → Bool → Follows → List (List ℕ) → List Piece
pieces_of ty indent starts follows [] = []
pieces_of ty indent starts follows (text ∷ texts) =
    record { ty = ty; indent = indent; starts = starts; text = text; follows = follows }
    ∷ pieces_of ty indent false follows texts

-- the pieces of all chunks, in order
unfoldable pub pieces : List Chunk → List Piece
pieces [] = []
pieces (chunk ∷ chunks) = pieces_of chunk.ty chunk.indent true (following chunks) (cut chunk.text) ++ pieces chunks
