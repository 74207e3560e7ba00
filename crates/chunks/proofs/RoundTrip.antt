-- The closing theorems of the stored list: reading undoes storing, storing undoes reading, and the lists that are accepted are the stored chunks with accepted texts.
use Rattle.std.specs.Prelude.{Some}
use Rattle.answers.specs.Numbers.{no_refusal}
use mathlib.Core.Path.{◌≡◌, refl, sym, ap, ◌∙◌}
use mathlib.Core.List.{List, [], ◌∷◌, ◌++◌, append_assoc, append-nil}
use Prim.Native.Nat.{ℕ, ◌+◌, ◌≤◌}
use native.Mathlib.Omega.{arith}
use lib.ListN.{length, length-append}
use lib.Seq.{drop-length}
use Rattle.chunks.specs.Stored.{Chunk, stored_chunk, stored_list, WellFormed, AllWellFormed, AllAccepted, Bytes}
use Rattle.chunks.specs.Reading.{chunk_at, chunk_of, chunks_at, chunks_of, stored_chunks}
use Rattle.chunks.specs.Judging.{end_from, chunks_checked}
use Rattle.chunks.proofs.Reading.{laid_found, chunk_end, chunks_at_found, chunks_at_none, chunks_well_formed}
use Rattle.chunks.proofs.Judging.{end_found, end_none, passed_end, passed_texts, judged_texts, texts_accepted, accepted_texts}
use Rattle.chunks.proofs.Placed.{stored_at, placed, placed_text}
use Rattle.chunks.proofs.Restored.{chunks_drop}

-- reading undoes storing: where a chunk was stored it is found, up to the end of its stored form
pub stored_found : (before : List ℕ) (chunk : Chunk) (after : List ℕ) → WellFormed chunk
    → (chunk_at (before ++ (stored_chunk chunk ++ after)) (length before) ≡ Some (stored_at (length before) chunk))
    × (chunk_of (before ++ (stored_chunk chunk ++ after)) (stored_at (length before) chunk) ≡ chunk)
    × ((stored_at (length before) chunk).end ≡ length before + length (stored_chunk chunk))
stored_found before chunk after good = (
  laid_found (before ++ (stored_chunk chunk ++ after)) (length before) (stored_at (length before) chunk) (placed before chunk after good),
  ap (λ (text : List ℕ). record { ty = chunk.ty; indent = chunk.indent; text = text }) (placed_text before chunk after),
  refl,
)

-- stored chunks behind other bytes give back the chunks, to the end
stored_back : (before : List ℕ) (chunks : List Chunk) → AllWellFormed chunks
    → (chunks_at (before ++ stored_list chunks) (length before) ≡ chunks)
    × (end_from (length before) (stored_chunks (before ++ stored_list chunks) (length before)) ≡ length (before ++ stored_list chunks))
unfolding stored_list
stored_back before [] good =
    let whole = append-nil before in
    let last = chunk_end (before ++ []) (length before) (omega (arith, ap length whole)) in
    (chunks_at_none (before ++ []) (length before) last, end_none (before ++ []) (length before) last ∙ ap length (sym whole))
stored_back before (chunk ∷ chunks) good =
    let list = before ++ (stored_chunk chunk ++ stored_list chunks) in
    let found = stored_found before chunk (stored_list chunks) good.0 in
    let whole : (before ++ stored_chunk chunk) ++ stored_list chunks ≡ list = append_assoc before (stored_chunk chunk) (stored_list chunks) in
    let end : length (before ++ stored_chunk chunk) ≡ length before + length (stored_chunk chunk) = length-append before (stored_chunk chunk) in
    let others = rw (whole, end) at (stored_back (before ++ stored_chunk chunk) chunks good.1) in (
      chunks_at_found list (length before) (stored_at (length before) chunk) found.0 ∙ rw (found.1, others.0),
      end_found list (length before) (stored_at (length before) chunk) found.0 ∙ others.1,
    )

-- the chunks of stored chunks are these chunks
pub chunks_stored : (chunks : List Chunk) → AllWellFormed chunks → chunks_of (stored_list chunks) ≡ chunks
chunks_stored chunks good = (stored_back [] chunks good).0

-- so no two lists of well-formed chunks are stored alike
pub stored_injective : (chunks others : List Chunk) → AllWellFormed chunks → AllWellFormed others → stored_list chunks ≡ stored_list others → chunks ≡ others
stored_injective chunks others good fine same = sym (chunks_stored chunks good) ∙ ap chunks_of same ∙ chunks_stored others fine

-- stored chunks within the limit, with accepted texts, are accepted
pub stored_accepted : (chunks : List Chunk) → AllWellFormed chunks → AllAccepted chunks → length (stored_list chunks) ≤ 1048576 → chunks_checked (stored_list chunks) ≡ no_refusal
unfolding chunks_at
stored_accepted chunks good fine short =
    let list = stored_list chunks in
    judged_texts list short (stored_back [] chunks good).1 ∙ texts_accepted list (stored_chunks list 0) (rw (chunks_stored chunks good) fine)

-- a list that is accepted is stored chunks, and these are well formed, with accepted texts
pub accepted_stored : (list : List ℕ) → Bytes list → chunks_checked list ≡ no_refusal
    → (stored_list (chunks_of list) ≡ list) × AllWellFormed (chunks_of list) × AllAccepted (chunks_of list)
unfolding chunks_at
accepted_stored list bytes passed = (
  sym (chunks_drop list bytes 0 ∙ rw (passed_end list passed, drop-length list) (append-nil (stored_list (chunks_of list)))),
  chunks_well_formed list 0 bytes,
  accepted_texts list (stored_chunks list 0) (passed_texts list passed),
)
