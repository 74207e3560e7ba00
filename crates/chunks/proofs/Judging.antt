-- Laws of judging a stored list chunk by chunk.
use Rattle.std.specs.Prelude.{Some, None, Err, fold, All}
use Rattle.answers.specs.Numbers.{no_refusal}
use mathlib.Core.Path.{◌≡◌, refl, ap, ◌∙◌}
use mathlib.Core.List.{List, [], ◌∷◌, map}
use mathlib.Core.Bool.{true}
use Prim.Native.Nat.{ℕ, ◌+◌, ◌≤◌, ◌<◌}
use native.Mathlib.Omega.{arith}
use lib.ListN.{length}
use Rattle.std.proofs.lemmas.List.Elements.{All-head, All-tail}
use lib.Seq.{slice, length-slice}
use lib.Dec.{eqb, ltb}
use borrow.Author.Tests.{lt-ltb, le-ltb, eq-eqb, ne_eqb, ltb-false, eqb-true}
use Rattle.answers.specs.declared.Reason.TheVariants.{ChunkLayout, NotAscii}
use Rattle.answers.proofs.Cases.{failed_passed}
use Rattle.text.specs.Accepted.{accepted_text, fault_at}
use Rattle.text.proofs.Choices.{by_test}
use Rattle.text.proofs.Accepted.{fault_none, fault_some, accepted_part}
use Rattle.chunks.specs.Stored.{AllAccepted}
use Rattle.chunks.specs.Reading.{chunk_at, stored_chunks, chunk_of}
use Rattle.chunks.specs.Judging.{end_from, layout_checked, texts_checked, chunks_checked}
use Rattle.chunks.specs.Steps.{ChunkInside}
use Rattle.chunks.specs.declared.stored.StoredChunk.{StoredChunk}
use Rattle.chunks.proofs.Reading.{chunks_found, chunks_none, chunks_inside}

-- ---- from one chunk to the next

-- the chunks end where those behind the first do
pub end_found : (list : List ℕ) (at : ℕ) (chunk : StoredChunk) → chunk_at list at ≡ Some chunk
    → end_from at (stored_chunks list at) ≡ end_from chunk.end (stored_chunks list chunk.end)
unfolding end_from
end_found list at chunk e = ap (end_from at) (chunks_found list at chunk e)

-- no chunks end where they start
pub end_none : (list : List ℕ) (at : ℕ) → chunk_at list at ≡ None → end_from at (stored_chunks list at) ≡ at
unfolding end_from
end_none list at e = ap (end_from at) (chunks_none list at e)

-- where the chunks end as a fold
pub end_folded : (at : ℕ) (chunks : List StoredChunk) → fold (λ (place : ℕ) (chunk : StoredChunk). chunk.end) at chunks ≡ end_from at chunks
unfolding end_from
end_folded at [] = refl
end_folded at (chunk ∷ chunks) = end_folded chunk.end chunks

-- the first text is judged before those behind it: by its first bad byte
pub text_bad : (list : List ℕ) (chunk : StoredChunk) (chunks : List StoredChunk) {fault : ℕ} → ChunkInside list chunk → fault ≡ chunk.start + fault_at (slice chunk.start chunk.end list)
    → fault < chunk.end → texts_checked list (chunk ∷ chunks) ≡ Err (record { reason = NotAscii; place = fault })
unfolding texts_checked
text_bad list chunk chunks inside found before =
    let text = slice chunk.start chunk.end list in
    let long = length-slice chunk.start chunk.end list inside.end in
    by_test (accepted_text text)
    (λ good. absurd (omega (arith, fault_none text good)))
    (λ bad. rw (bad, found))

-- or by those behind it
pub text_good : (list : List ℕ) (chunk : StoredChunk) (chunks : List StoredChunk) {fault : ℕ} → ChunkInside list chunk → fault ≡ chunk.start + fault_at (slice chunk.start chunk.end list)
    → chunk.end ≤ fault → texts_checked list (chunk ∷ chunks) ≡ texts_checked list chunks
unfolding texts_checked
text_good list chunk chunks inside found past =
    let text = slice chunk.start chunk.end list in
    let long = length-slice chunk.start chunk.end list inside.end in
    by_test (accepted_text text)
    (λ good. rw good)
    (λ bad. absurd (omega (arith, fault_some text bad)))

-- the texts that are left are judged as all are, and lie within the list
pub record Going (list : List ℕ) (at : ℕ) (left : List StoredChunk) : Type 0 where
  pub texts : texts_checked list (stored_chunks list at) ≡ texts_checked list left
  pub inside : All (ChunkInside list) left

-- at the start all are left
pub going_first : (list : List ℕ) (at : ℕ) → Going list at (stored_chunks list at)
going_first list at = record { texts = refl; inside = chunks_inside list at }

module _ {list : List ℕ} {at : ℕ} {left : List StoredChunk} {chunk : StoredChunk} {chunks : List StoredChunk} (going : Going list at left) (first : left ≡ chunk ∷ chunks) where
  -- the first of those that are left lies within the list
  pub going_inside : ChunkInside list chunk
  going_inside = All-head (ChunkInside list) chunk chunks (rw first at going.inside)

  -- it is refused by its first bad byte
  pub going_bad : {fault : ℕ} → fault ≡ chunk.start + fault_at (slice chunk.start chunk.end list) → fault < chunk.end
      → texts_checked list (stored_chunks list at) ≡ Err (record { reason = NotAscii; place = fault })
  going_bad found before = rw (going.texts, first) (text_bad list chunk chunks going_inside found before)

  -- or else the others are judged
  pub going_on : {fault : ℕ} → fault ≡ chunk.start + fault_at (slice chunk.start chunk.end list) → chunk.end ≤ fault → Going list at chunks
  going_on found past = record {
    texts = going.texts ∙ rw first (text_good list chunk chunks going_inside found past);
    inside = All-tail (ChunkInside list) chunk chunks (rw first at going.inside);
  }

-- where none is left all are passed
pub going_none : {list : List ℕ} {at : ℕ} {left : List StoredChunk} → Going list at left → left ≡ [] → texts_checked list (stored_chunks list at) ≡ no_refusal
unfolding texts_checked
going_none going none = rw (going.texts, none)

-- ---- the answers

-- the length is judged first
pub too_long : (list : List ℕ) → 1048576 < length list → chunks_checked list ≡ Err (record { reason = ChunkLayout; place = 0 })
unfolding chunks_checked layout_checked
too_long list long = rw (lt-ltb _ _ long)

-- then whether the chunks end with the list
pub layout_failed : (list : List ℕ) {end : ℕ} → length list ≤ 1048576 → end ≡ end_from 0 (stored_chunks list 0) → (end ≡ length list → ⊥)
    → chunks_checked list ≡ Err (record { reason = ChunkLayout; place = end })
unfolding chunks_checked layout_checked
layout_failed list short ends other = rw (le-ltb _ _ short, ← ends, ne_eqb _ _ other)

-- and then the texts
pub judged_texts : (list : List ℕ) → length list ≤ 1048576 → end_from 0 (stored_chunks list 0) ≡ length list → chunks_checked list ≡ texts_checked list (stored_chunks list 0)
unfolding chunks_checked layout_checked
judged_texts list short end = rw (le-ltb _ _ short, eq-eqb _ _ end)

-- of which none is refused where the whole list is accepted
pub texts_all : (list : List ℕ) (chunks : List StoredChunk) → accepted_text list ≡ true → texts_checked list chunks ≡ no_refusal
unfolding texts_checked
texts_all list [] e = refl
texts_all list (chunk ∷ chunks) e = rw (accepted_part chunk.start chunk.end list e) (texts_all list chunks e)

-- ---- what a judgement that is passed tells

module _ (list : List ℕ) (passed : chunks_checked list ≡ no_refusal) where
  -- the list is within the limit
  pub passed_short : length list ≤ 1048576
  unfolding chunks_checked layout_checked
  passed_short = by_test (ltb 1048576 (length list)) (λ e. failed_passed (rw e at passed)) (λ e. ltb-false _ _ e)

  -- its chunks end where it does
  pub passed_end : end_from 0 (stored_chunks list 0) ≡ length list
  unfolding chunks_checked layout_checked
  passed_end = by_test (eqb (end_from 0 (stored_chunks list 0)) (length list)) (λ e. eqb-true _ _ e) (λ e. failed_passed (rw (le-ltb _ _ passed_short, e) at passed))

  -- and no text is refused
  pub passed_texts : texts_checked list (stored_chunks list 0) ≡ no_refusal
  unfolding chunks_checked layout_checked
  passed_texts = rw (le-ltb _ _ passed_short, eq-eqb _ _ passed_end) at passed

-- ---- judging texts is asking whether each is accepted

-- accepted texts are passed
pub texts_accepted : (list : List ℕ) (chunks : List StoredChunk) → AllAccepted (map (chunk_of list) chunks) → texts_checked list chunks ≡ no_refusal
unfolding texts_checked
texts_accepted list [] good = refl
texts_accepted list (chunk ∷ chunks) good = rw good.0 (texts_accepted list chunks good.1)

-- texts that are passed are accepted
pub accepted_texts : (list : List ℕ) (chunks : List StoredChunk) → texts_checked list chunks ≡ no_refusal → AllAccepted (map (chunk_of list) chunks)
unfolding texts_checked
accepted_texts list [] passed = tt
accepted_texts list (chunk ∷ chunks) passed =
    by_test (accepted_text (slice chunk.start chunk.end list))
    (λ e. (e, accepted_texts list chunks (rw e at passed)))
    (λ e. failed_passed (rw e at passed))
