-- Chunks that are read from a list of bytes, stored again, are the list up to where they end.
use Rattle.std.specs.Prelude.{Option, Some, None}
use mathlib.Core.Path.{◌≡◌, refl, sym, ap, ◌∙◌}
use mathlib.Core.List.{List, ◌∷◌, ◌++◌, map, append_assoc}
use Prim.Native.Nat.{ℕ, zero, suc, ◌+◌, ◌≤◌}
use native.Mathlib.Omega.{arith}
use native.Mathlib.Nat.{add-zero}
use lib.ListN.{length, get_or, drop}
use lib.Seq.{slice, length-slice}
use Rattle.text.specs.Numbers.{two_bytes, number_at}
use Rattle.text.proofs.Parts.{drop_step}
use Rattle.text.proofs.TwoBytes.{two_bytes_number}
use Rattle.chunks.specs.Stored.{type_bits, indent_bit, stored_indent, stored_head, stored_chunk, stored_list, Bytes}
use Rattle.chunks.specs.Reading.{chunk_at, rest_on, chunks_from, stored_chunks, chunk_of, chunks_at}
use Rattle.chunks.specs.Judging.{end_from}
use Rattle.chunks.specs.declared.stored.StoredChunk.{StoredChunk}
use Rattle.chunks.proofs.Parts.{part_drop}
use Rattle.chunks.proofs.Reading.{Laid, LaidAs, chunk_laid}

module _ (list : List ℕ) (bytes : Bytes list) where
  -- two bytes are the stored form of their number
  number_drop : (place : ℕ) → place + 2 ≤ length list → drop place list ≡ two_bytes (number_at list place) ++ drop (place + 2) list
  number_drop place inside =
      let two : place + 1 + 1 ≡ place + 2 = omega arith in
      drop_step list place (omega arith)
      ∙ ap (λ (l : List ℕ). get_or list place 0 ∷ l) (drop_step list (place + 1) (omega arith))
      ∙ rw two (sym (ap (λ (l : List ℕ). l ++ drop (place + 2) list) (two_bytes_number (get_or list place 0) (get_or list (place + 1) 0) (bytes place))))

  -- an indent, where there is one
  indent_drop : (place indent : ℕ) → place + 2 ≤ length list → ((indent ≡ 0 → ⊥) → number_at list place ≡ indent)
      → drop place list ≡ stored_indent indent ++ drop (place + length (stored_indent indent)) list
  unfolding stored_indent
  indent_drop place zero inside stored = rw (add-zero place)
  indent_drop place (suc n) inside stored = rw (stored (λ none. omega arith)) at (number_drop place inside)

  -- a chunk that is laid out at a place, and what stands behind it
  laid_drop : (at : ℕ) (chunk : StoredChunk) → Laid list at chunk → drop at list ≡ stored_chunk (chunk_of list chunk) ++ drop chunk.end list
  unfolding stored_chunk stored_head
  laid_drop at chunk laid =
      let indent = stored_indent chunk.indent in
      let place = at + 1 + length indent in
      let text = slice chunk.start chunk.end list in
      let start : place + 2 ≡ chunk.start = omega (arith, laid.start) in
      let count : number_at list place ≡ length text = omega (arith, laid.end, length-slice chunk.start chunk.end list laid.inside) in
      let mapped : drop at list ≡ (type_bits chunk.ty + indent_bit chunk.indent) ∷ drop (at + 1) list = rw laid.map at (drop_step list at (omega arith)) in
      let indented : drop (at + 1) list ≡ indent ++ drop place list = indent_drop (at + 1) chunk.indent (omega arith) laid.indent in
      let counted : drop place list ≡ two_bytes (length text) ++ drop chunk.start list = rw (start, count) at (number_drop place (omega arith)) in
      let parted : drop chunk.start list ≡ text ++ drop chunk.end list = part_drop chunk.start chunk.end list (omega arith) in
      mapped ∙ rw (indented, counted, parted) (simp append_assoc)

  -- a chunk, if there is one, and what is read behind it
  rest_drop : (at : ℕ) (rest : ℕ → List StoredChunk) (found : Option StoredChunk) → LaidAs list at found
      → ((end : ℕ) → drop end list ≡ stored_list (map (chunk_of list) (rest end)) ++ drop (end_from end (rest end)) list)
      → drop at list ≡ stored_list (map (chunk_of list) (rest_on rest found)) ++ drop (end_from at (rest_on rest found)) list
  unfolding stored_list end_from
  rest_drop at rest (Some chunk) laid others =
      laid_drop at chunk laid
      ∙ ap (λ (l : List ℕ). stored_chunk (chunk_of list chunk) ++ l) (others chunk.end)
      ∙ sym (append_assoc (stored_chunk (chunk_of list chunk)) (stored_list (map (chunk_of list) (rest chunk.end))) (drop (end_from chunk.end (rest chunk.end)) list))
  rest_drop at rest None laid others = refl

  -- however many are read
  from_drop : (n at : ℕ) → drop at list ≡ stored_list (map (chunk_of list) (chunks_from n list at)) ++ drop (end_from at (chunks_from n list at)) list
  unfolding chunks_from stored_list end_from
  from_drop zero at = refl
  from_drop (suc n) at = rest_drop at (chunks_from n list) (chunk_at list at) (chunk_laid list at) (λ end. from_drop n end)

  -- the chunks from a place on, stored again, and what stands behind them
  pub chunks_drop : (at : ℕ) → drop at list ≡ stored_list (chunks_at list at) ++ drop (end_from at (stored_chunks list at)) list
  unfolding chunks_at stored_chunks
  chunks_drop at = from_drop (length list) at
