-- A chunk, and its stored form: document 01, "Chunk".
use Rattle.std.specs.Prelude.{ℕ, zero, suc, ◌+◌, ◌≤◌, ◌<◌, ◌≡◌, List, [], ◌∷◌, ◌++◌, true, length, get_or}
use Rattle.text.specs.Numbers.{two_bytes}
use Rattle.text.specs.Accepted.{accepted_text}
use Rattle.chunks.specs.declared.stored.ChunkType.{ChunkType}
use Rattle.chunks.specs.declared.stored.ChunkType.TheVariants.{Code, Label, Comment}

pub record Chunk : Type 0 where
  pub ty : ChunkType
  pub indent : ℕ
  pub text : List ℕ

-- "Bit 0 label, bit 1 comment (never both; neither is code)"
abbrev pub type_bits : ChunkType → ℕ
type_bits Code = 0
type_bits Label = 1
type_bits Comment = 2

-- "bit 2 indent"
abbrev pub indent_bit : ℕ → ℕ
indent_bit zero = 0
indent_bit (suc n) = 4

-- "Then indent (two bytes, 1 to 4,096; absent is 0)"
unfoldable pub stored_indent : ℕ → List ℕ
stored_indent zero = []
stored_indent (suc n) = two_bytes (suc n)

-- the map, the indent, "and always a text length (two bytes, at least 1)"
unfoldable pub stored_head : ChunkType → ℕ → ℕ → List ℕ
stored_head ty indent count = (type_bits ty + indent_bit indent) ∷ (stored_indent indent ++ two_bytes count)

-- "and the text"
unfoldable pub stored_chunk : Chunk → List ℕ
stored_chunk chunk = stored_head chunk.ty chunk.indent (length chunk.text) ++ chunk.text

-- "A chunk list is chunks end to end"
unfoldable pub stored_list : List Chunk → List ℕ
stored_list [] = []
stored_list (chunk ∷ chunks) = stored_chunk chunk ++ stored_list chunks

-- a chunk that has a stored form
pub record WellFormed (chunk : Chunk) : Type 0 where
  pub indent : chunk.indent ≤ 4096
  pub some : 1 ≤ length chunk.text
  pub short : length chunk.text ≤ 65535

abbrev pub AllWellFormed : List Chunk → Type 0
AllWellFormed [] = Unit
AllWellFormed (chunk ∷ chunks) = WellFormed chunk × AllWellFormed chunks

-- no text holds a byte that is refused
abbrev pub AllAccepted : List Chunk → Type 0
AllAccepted [] = Unit
AllAccepted (chunk ∷ chunks) = (accepted_text chunk.text ≡ true) × AllAccepted chunks

-- every element is a byte
abbrev pub Bytes : List ℕ → Type 0
Bytes list = (i : ℕ) → get_or list i 0 < 256
