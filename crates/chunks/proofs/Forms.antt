-- Laws of a chunk's stored form: its map byte, its indent and its length.
use mathlib.Core.Path.{◌≡◌, refl, sym, ap, ◌∙◌}
use Prim.Native.Nat.{ℕ, zero, suc, ◌+◌, ◌%◌, ◌≤◌, ◌<◌}
use native.Mathlib.Omega.{arith}
use lib.ListN.{length, length-append}
use Rattle.text.specs.Numbers.{two_bytes}
use Rattle.chunks.specs.Stored.{Chunk, type_bits, indent_bit, stored_indent, stored_head, stored_chunk}
use Rattle.chunks.specs.Reading.{type_of}
use Rattle.chunks.specs.declared.stored.ChunkType.{ChunkType}
use Rattle.chunks.specs.declared.stored.ChunkType.TheVariants.{Code, Label, Comment}

-- a type has at most one of the two lowest bits
pub type_bits_small : (ty : ChunkType) → type_bits ty ≤ 2
type_bits_small Code = omega arith
type_bits_small Label = omega arith
type_bits_small Comment = omega arith

-- a type is what its bits tell
type_of_bits : (ty : ChunkType) → type_of (type_bits ty) ≡ ty
type_of_bits Code = refl
type_of_bits Label = refl
type_of_bits Comment = refl

-- so no two types have the same bits
pub same_type : (a b : ChunkType) → type_bits a ≡ type_bits b → a ≡ b
same_type a b e = sym (type_of_bits a) ∙ ap type_of e ∙ type_of_bits b

-- the bits of the type that they tell
pub bits_of_type : (bits : ℕ) → bits < 3 → type_bits (type_of bits) ≡ bits
bits_of_type zero small = refl
bits_of_type (suc zero) small = refl
bits_of_type (suc (suc zero)) small = refl
bits_of_type (suc (suc (suc n))) small = absurd (omega arith)

-- the two lowest bits of a map are its type's
pub map_bits : (ty : ChunkType) (indent : ℕ) → (type_bits ty + indent_bit indent) % 4 ≡ type_bits ty
map_bits ty zero = omega (arith, type_bits_small ty)
map_bits ty (suc n) = omega (arith, type_bits_small ty)

-- so a map tells its type
pub map_type : (ty : ChunkType) (indent : ℕ) → type_of ((type_bits ty + indent_bit indent) % 4) ≡ ty
map_type ty indent = rw (map_bits ty indent) (type_of_bits ty)

-- an indent that is not 0 has its bit
pub indent_bit_lem : (n : ℕ) → (n ≡ 0 → ⊥) → indent_bit n ≡ 4
indent_bit_lem zero some = absurd (some refl)
indent_bit_lem (suc n) some = refl

-- and is stored
pub indent_stored : (n : ℕ) → (n ≡ 0 → ⊥) → stored_indent n ≡ two_bytes n
unfolding stored_indent
indent_stored zero some = absurd (some refl)
indent_stored (suc n) some = refl

-- in two bytes at most
pub indent_length : (n : ℕ) → length (stored_indent n) ≤ 2
unfolding stored_indent
indent_length zero = omega arith
indent_length (suc n) = omega arith

-- a map, an indent or none, a text length
pub head_length : (ty : ChunkType) (indent count : ℕ) → length (stored_head ty indent count) ≡ 3 + length (stored_indent indent)
unfolding stored_head
head_length ty indent count = omega (arith, length-append (stored_indent indent) (two_bytes count))

-- a head, and the text
pub chunk_length : (chunk : Chunk) → length (stored_chunk chunk) ≡ 3 + length (stored_indent chunk.indent) + length chunk.text
unfolding stored_chunk
chunk_length chunk =
    omega (arith, length-append (stored_head chunk.ty chunk.indent (length chunk.text)) chunk.text, head_length chunk.ty chunk.indent (length chunk.text))
