-- Laws of the places of a list that was judged: before its end a chunk stands, and its head tells it.
use Rattle.std.specs.Prelude.{Option, Some, None}
use mathlib.Core.Logic.{inl, inr}
use mathlib.Core.Path.{◌≡◌, refl, sym, ap, ◌∙◌}
use mathlib.Core.List.{List}
use Prim.Native.Nat.{ℕ, ◌+◌, ◌-◌, ◌≤◌, ◌<◌}
use native.Mathlib.Omega.{arith}
use lib.ListN.{length, get_or}
use Rattle.text.specs.Numbers.{number_at}
use Rattle.chunks.specs.Stored.{type_bits}
use Rattle.chunks.specs.Reading.{chunk_at, stored_chunks, ChunkFits}
use Rattle.chunks.specs.Judging.{end_from}
use Rattle.chunks.specs.declared.stored.ChunkType.{ChunkType}
use Rattle.chunks.specs.declared.stored.StoredChunk.{StoredChunk}
use Rattle.chunks.proofs.Forms.{type_bits_small, same_type}
use Rattle.chunks.proofs.Reading.{PlainHead, IndentedHead, laid_head, Laid, LaidAs, chunk_laid, laid_fits}
use Rattle.chunks.proofs.Judging.{end_none}

-- a chunk by its fields
same_chunk : (chunk : StoredChunk) {ty : ChunkType} {indent start end : ℕ} → ty ≡ chunk.ty → indent ≡ chunk.indent → start ≡ chunk.start → end ≡ chunk.end
    → record { ty = ty; indent = indent; start = start; end = end } ≡ chunk
same_chunk chunk ty indent start end = rw (ty, indent, start, end)

-- what is found fits where its text is not too long
pub found_fits : (list : List ℕ) (at : ℕ) {chunk : StoredChunk} → Some chunk ≡ chunk_at list at → chunk.end ≤ chunk.start + 65535 → ChunkFits list at chunk
found_fits list at {chunk} e short = laid_fits list at chunk short (rw (← e) at (chunk_laid list at))

module _ (list : List ℕ) (at : ℕ) (laid : end_from at (stored_chunks list at) ≡ length list) (inside : at < length list) where
  -- before the list's end a chunk is found, with one head or the other
  by_head : {P : Type 0} → ((chunk : StoredChunk) → chunk_at list at ≡ Some chunk → Laid list at chunk → PlainHead list at chunk → P)
      → ((chunk : StoredChunk) → chunk_at list at ≡ Some chunk → Laid list at chunk → IndentedHead list at chunk → P) → P
  by_head {P} plain indented = by_found (chunk_at list at) refl (chunk_laid list at)
    where
      by_found : (found : Option StoredChunk) → chunk_at list at ≡ found → LaidAs list at found → P
      by_found (Some chunk) e stored = elim (laid_head list at chunk stored) [ inl head ↦ plain chunk e stored head | inr head ↦ indented chunk e stored head ]
      by_found None e stored = absurd (omega (arith, laid, end_none list at e))

  -- a head without an indent
  module _ (unset : get_or list at 0 < 4) where
    pub plain_inside : (at + 3 ≤ length list) × (get_or list at 0 ≤ 2)
    plain_inside = by_head (λ chunk e stored head. let small = type_bits_small chunk.ty in (omega arith, omega arith)) (λ chunk e stored head. absurd (omega arith))

    pub plain_found : {ty : ChunkType} {count : ℕ} → type_bits ty ≡ get_or list at 0 → count ≡ number_at list (at + 1)
        → Some (record { ty = ty; indent = 0; start = at + 3; end = at + 3 + count }) ≡ chunk_at list at
    plain_found {ty} bits counted =
        by_head
        (λ chunk e stored head. ap Some (same_chunk chunk (same_type ty chunk.ty (bits ∙ head.map)) (sym head.indent) (sym head.start) (omega arith)) ∙ sym e)
        (λ chunk e stored head. absurd (omega arith))

  -- and one with an indent
  module _ (set : 4 ≤ get_or list at 0) where
    pub indented_inside : (at + 5 ≤ length list) × (get_or list at 0 - 4 ≤ 2)
    indented_inside =
        by_head
        (λ chunk e stored head. absurd (omega (arith, type_bits_small chunk.ty)))
        (λ chunk e stored head. let small = type_bits_small chunk.ty in (omega arith, omega arith))

    pub indented_found : {ty : ChunkType} {indent count : ℕ} → type_bits ty ≡ get_or list at 0 - 4 → indent ≡ number_at list (at + 1) → count ≡ number_at list (at + 3)
        → Some (record { ty = ty; indent = indent; start = at + 5; end = at + 5 + count }) ≡ chunk_at list at
    indented_found {ty} bits told counted =
        by_head
        (λ chunk e stored head. absurd (omega (arith, type_bits_small chunk.ty)))
        (λ chunk e stored head.
        let type : type_bits ty ≡ type_bits chunk.ty = omega arith in
        ap Some (same_chunk chunk (same_type ty chunk.ty type) (told ∙ sym head.indent) (sym head.start) (omega arith)) ∙ sym e)
