-- A stored chunk is laid out where it was put, whatever stands around it.
use mathlib.Core.Path.{◌≡◌, refl}
use mathlib.Core.List.{List, [], ◌∷◌, ◌++◌, append_assoc}
use Prim.Native.Nat.{ℕ, ◌+◌}
use native.Mathlib.Omega.{arith}
use lib.ListN.{length, get_or, length-append}
use lib.Seq.{slice, get_or-append_seam}
use Rattle.text.specs.Numbers.{two_bytes, number_at}
use Rattle.text.proofs.TwoBytes.{number_stored}
use Rattle.chunks.specs.Stored.{Chunk, type_bits, indent_bit, stored_indent, stored_head, stored_chunk, WellFormed}
use Rattle.chunks.specs.declared.stored.StoredChunk.{StoredChunk}
use Rattle.chunks.proofs.Parts.{part_between}
use Rattle.chunks.proofs.Forms.{indent_stored, head_length, chunk_length}
use Rattle.chunks.proofs.Reading.{Laid}

-- where a chunk that is stored at a place stands
abbrev pub stored_at : ℕ → Chunk → StoredChunk
stored_at at chunk = record {
  ty = chunk.ty;
  indent = chunk.indent;
  start = at + 3 + length (stored_indent chunk.indent);
  end = at + length (stored_chunk chunk);
}

-- the number whose stored form stands behind a list
number_behind : (front rest : List ℕ) (n : ℕ) {list : List ℕ} {place : ℕ} → list ≡ front ++ (two_bytes n ++ rest) → place ≡ length front → number_at list place ≡ n
number_behind front rest n whole there = rw (whole, there) (number_stored front rest n)

module _ (before : List ℕ) (chunk : Chunk) (after : List ℕ) where
  -- the list, and the chunk's map
  abbrev list : List ℕ
  list = before ++ (stored_chunk chunk ++ after)

  abbrev map : ℕ
  map = type_bits chunk.ty + indent_bit chunk.indent

  -- the list, parted before the indent
  from_indent : list ≡ (before ++ (map ∷ [])) ++ (stored_indent chunk.indent ++ (two_bytes (length chunk.text) ++ (chunk.text ++ after)))
  unfolding stored_chunk stored_head
  from_indent = simp append_assoc

  -- before the text length
  from_length : list ≡ (before ++ (map ∷ stored_indent chunk.indent)) ++ (two_bytes (length chunk.text) ++ (chunk.text ++ after))
  unfolding stored_chunk stored_head
  from_length = simp append_assoc

  -- and before the text
  from_text : list ≡ (before ++ stored_head chunk.ty chunk.indent (length chunk.text)) ++ (chunk.text ++ after)
  unfolding stored_chunk
  from_text = simp append_assoc

  -- the map stands first
  first : get_or list (length before) 0 ≡ map
  unfolding stored_chunk stored_head
  first = get_or-append_seam before map _ 0

  -- the chunk is laid out where it was put
  pub placed : WellFormed chunk → Laid list (length before) (stored_at (length before) chunk)
  placed good =
      let whole = length-append before (stored_chunk chunk ++ after) in
      let rest = length-append (stored_chunk chunk) after in
      let own = chunk_length chunk in
      let count : number_at list (length before + 1 + length (stored_indent chunk.indent)) ≡ length chunk.text =
      number_behind (before ++ (map ∷ stored_indent chunk.indent)) (chunk.text ++ after) (length chunk.text) from_length
      (omega (arith, length-append before (map ∷ stored_indent chunk.indent))) in
      record {
        map = first;
        low = good.indent;
        indent = λ some. number_behind (before ++ (map ∷ [])) (two_bytes (length chunk.text) ++ (chunk.text ++ after)) chunk.indent
            (rw (indent_stored chunk.indent some) at from_indent) (omega (arith, length-append before (map ∷ [])));
        start = refl;
        end = omega arith;
        some = omega (arith, good.some);
        inside = omega arith;
      }

  -- and its text behind its head
  pub placed_text : slice (stored_at (length before) chunk).start (stored_at (length before) chunk).end list ≡ chunk.text
  placed_text =
      let head = stored_head chunk.ty chunk.indent (length chunk.text) in
      let front = length-append before head in
      let own = head_length chunk.ty chunk.indent (length chunk.text) in
      let start : (stored_at (length before) chunk).start ≡ length (before ++ head) = omega arith in
      let end : (stored_at (length before) chunk).end ≡ length (before ++ head) + length chunk.text = omega (arith, chunk_length chunk) in
      rw (start, end, from_text) (part_between (before ++ head) chunk.text after)
