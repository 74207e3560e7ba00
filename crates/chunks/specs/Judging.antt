-- Judging a stored chunk list: refusals 6 and 7 of document 01.
use Rattle.std.specs.Prelude.{ℕ, ◌+◌, List, [], ◌∷◌, cond, length, eqb, ltb, Err}
use Rattle.std.proofs.Math.Seq.{slice}
use Rattle.answers.specs.declared.Reason.TheVariants.{ChunkLayout, NotAscii}
use Rattle.answers.specs.Numbers.{no_refusal, and_then, unless_refused, Checked}
use Rattle.text.specs.Accepted.{accepted_text, fault_at}
use Rattle.chunks.specs.Reading.{stored_chunks}
use Rattle.chunks.specs.declared.stored.StoredChunk.{StoredChunk}

-- where the chunks from a place on end
unfoldable pub end_from : ℕ → List StoredChunk → ℕ
end_from at [] = at
end_from at (chunk ∷ chunks) = end_from chunk.end chunks

-- "The chunk list breaks its layout or its length limit; place of the first bad chunk, or 0 for the length, which is judged first."
unfoldable pub layout_checked : List ℕ → Checked
layout_checked list =
    cond (ltb 1048576 (length list)) (Err (record { reason = ChunkLayout; place = 0 }))
    (cond (eqb (end_from 0 (stored_chunks list 0)) (length list)) no_refusal
    (Err (record { reason = ChunkLayout; place = end_from 0 (stored_chunks list 0) })))

-- "A text ... byte is above 127; the place of the first."
unfoldable pub texts_checked : List ℕ → List StoredChunk → Checked
texts_checked list [] = no_refusal
texts_checked list (chunk ∷ chunks) =
    cond (accepted_text (slice chunk.start chunk.end list))
    (texts_checked list chunks)
    (Err (record { reason = NotAscii; place = chunk.start + fault_at (slice chunk.start chunk.end list) }))

-- 6 over the whole list, then 7
unfoldable pub chunks_checked : List ℕ → Checked
chunks_checked list = and_then (layout_checked list) (texts_checked list (stored_chunks list 0))

-- ---- in document 01's numbers: (0, 0), or a refusal's number and place

unfoldable pub layout_numbers : List ℕ → ℕ × ℕ
layout_numbers list =
    cond (ltb 1048576 (length list)) (6, 0)
    (cond (eqb (end_from 0 (stored_chunks list 0)) (length list)) (0, 0) (6, end_from 0 (stored_chunks list 0)))

unfoldable pub texts_numbers : List ℕ → List StoredChunk → ℕ × ℕ
texts_numbers list [] = (0, 0)
texts_numbers list (chunk ∷ chunks) =
    let text = slice chunk.start chunk.end list in
    cond (accepted_text text) (texts_numbers list chunks) (7, chunk.start + fault_at text)

-- 6 over the whole list, then 7
unfoldable pub chunks_numbers : List ℕ → ℕ × ℕ
chunks_numbers list = unless_refused (layout_numbers list) (texts_numbers list (stored_chunks list 0))
